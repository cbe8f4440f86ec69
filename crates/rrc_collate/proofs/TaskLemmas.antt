-- SPDX-License-Identifier: MIT
-- one task more takes its events from the hands
use Rattle.std.proofs.Common.{◌≡◌, ℕ, true, false, cond, eqb, List, [], ◌∷◌, ◌++◌, refl, sym, ◌∙◌, ap, ⊎_elim}
use Rattle.std.specs.List.{AllZip}
use Rattle.std.proofs.lemmas.Bool.{cases_eq, eq-eqb, ne_eqb, cond-true, cond-false}
use Rattle.std.proofs.lemmas.List.{append_assoc, append-nil}
use Rattle.rrc_history.specs.declared.event.Event.{Event}
use Rattle.rrc_collate.specs.declared.task.Task.{Task}
use Rattle.rrc_collate.specs.Calls.{going_to}
use Rattle.rrc_collate.specs.Draws.{hand_of, Fits, IsDrawn, IsOnlyDraw, CanNotDraw}
use Rattle.rrc_collate.proofs.HandLemmas.{zip_push}
use Rattle.rrc_collate.specs.Tasks.{IsTaskOf, written_by, AllFit, AreDone}

written_own : (worker part : ℕ) (task : Task) (tasks : List Task) (own : List Event) (others : List (List Event)) → worker ≡ task.worker
    → written_by worker part (task ∷ tasks) (own ∷ others) ≡ going_to part task.operations own ++ written_by worker part tasks others
written_own worker part task tasks own others same =
    cond-true (eqb task.worker worker) (going_to part task.operations own ++ written_by worker part tasks others) (written_by worker part tasks others) (eq-eqb task.worker worker (sym same))

written_other : (worker part : ℕ) (task : Task) (tasks : List Task) (own : List Event) (others : List (List Event)) → (worker ≡ task.worker → ⊥)
    → written_by worker part (task ∷ tasks) (own ∷ others) ≡ written_by worker part tasks others
written_other worker part task tasks own others other =
    cond-false (eqb task.worker worker) (going_to part task.operations own ++ written_by worker part tasks others) (written_by worker part tasks others)
    (ne_eqb task.worker worker (λ e. other (sym e)))

-- what fits tasks fits the first of them, with what the others of its worker take behind it
first_fits : (parts : List (List (List Event))) (task : Task) (tasks : List Task) (own : List Event) (others : List (List Event)) (behind : ℕ → ℕ → List Event)
    → AllFit parts (task ∷ tasks) (own ∷ others) behind
    → Fits parts task.worker task.line 0 task.operations own (λ part. written_by task.worker part tasks others ++ behind part task.worker)
first_fits parts task tasks own others behind fit = record {
  calls = fit.calls.0;
  own = λ part.
      fit.own part task.worker
      ∙ (ap (λ l. l ++ behind part task.worker) (written_own task.worker part task tasks own others refl)
      ∙ append_assoc (going_to part task.operations own) (written_by task.worker part tasks others) (behind part task.worker));
}

pub all_fit_none : (parts : List (List (List Event))) (task : Task) (tasks : List Task) (events : List (List Event)) (behind : ℕ → ℕ → List Event)
    → CanNotDraw parts task.worker task.line task.operations → AllFit parts (task ∷ tasks) events behind → ⊥
all_fit_none parts task tasks [] behind none fit = fit.calls
all_fit_none parts task tasks (own ∷ others) behind none fit =
    none own (λ part. written_by task.worker part tasks others ++ behind part task.worker) (first_fits parts task tasks own others behind fit)

-- what fits all tasks is what was done, and then what fits the rest of them
pub record AllFitOn (parts : List (List (List Event))) (rest : List Task) (done events : List (List Event)) (behind : ℕ → ℕ → List Event) : Type 0 where
  pub others : List (List Event)
  pub joined : events ≡ done ++ others
  pub fit : AllFit parts rest others behind

rest_fits : (parts left : List (List (List Event))) (task : Task) (tasks : List Task) (drawn : List Event) (done events others : List (List Event)) (behind : ℕ → ℕ → List Event)
    → IsDrawn parts task.worker task.line task.operations drawn left → IsOnlyDraw parts task.worker task.line task.operations drawn left
    → events ≡ done ++ others → AllFit parts (task ∷ tasks) others behind → AllFitOn left tasks (done ++ drawn ∷ []) events behind
rest_fits parts left task tasks drawn done events [] behind is_drawn only joined fit = absurd (fit.calls)
rest_fits parts left task tasks drawn done events (own ∷ others) behind is_drawn only joined fit =
    let one = only own (λ part. written_by task.worker part tasks others ++ behind part task.worker) (first_fits parts task tasks own others behind fit) in
    record {
      others = others;
      joined = joined ∙ (ap (λ e. done ++ e ∷ others) one.0 ∙ sym (append_assoc done (drawn ∷ []) others));
      fit = record {
        calls = fit.calls.1;
        own = λ part worker.
            ⊎_elim
            (λ (same : worker ≡ task.worker).
            ap (hand_of left part) same ∙ (one.1 part ∙ ap (λ w. written_by w part tasks others ++ behind part w) (sym same)))
            (λ (other : worker ≡ task.worker → ⊥).
            is_drawn.others part worker other
            ∙ (fit.own part worker ∙ ap (λ l. l ++ behind part worker) (written_other worker part task tasks own others other)))
            (cases_eq worker task.worker);
      };
    }

pub all_fit_on : (parts left : List (List (List Event))) (task : Task) (tasks : List Task) (drawn : List Event) (done events : List (List Event)) (behind : ℕ → ℕ → List Event)
    → IsDrawn parts task.worker task.line task.operations drawn left → IsOnlyDraw parts task.worker task.line task.operations drawn left
    → AllFitOn parts (task ∷ tasks) done events behind → AllFitOn left tasks (done ++ drawn ∷ []) events behind
all_fit_on parts left task tasks drawn done events behind is_drawn only on =
    rest_fits parts left task tasks drawn done events on.others behind is_drawn only on.joined on.fit

pub all_fit_all : (parts : List (List (List Event))) (done events : List (List Event)) (behind : ℕ → ℕ → List Event)
    → AllFitOn parts [] done events behind → (events ≡ done) × ((part worker : ℕ) → hand_of parts part worker ≡ behind part worker)
all_fit_all parts done events behind on =
    (on.joined ∙ (ap (λ l. done ++ l) (nothing on.others on.fit.calls) ∙ append-nil done), λ part worker. on.fit.own part worker)
  where
    nothing : (events : List (List Event)) → AllZip IsTaskOf [] events → events ≡ []
    nothing [] calls = refl
    nothing (own ∷ others) calls = absurd calls

written_more : (worker part : ℕ) (tasks : List Task) (done : List (List Event)) (task : Task) (drawn : List Event) → AllZip IsTaskOf tasks done
    → written_by worker part (tasks ++ task ∷ []) (done ++ drawn ∷ []) ≡ written_by worker part tasks done ++ cond (eqb task.worker worker) (going_to part task.operations drawn) []
written_more worker part [] [] task drawn calls = ap (λ l. cond (eqb task.worker worker) l []) (append-nil (going_to part task.operations drawn))
written_more worker part [] (own ∷ others) task drawn calls = absurd calls
written_more worker part (first ∷ behind) [] task drawn calls = absurd calls
written_more worker part (first ∷ behind) (own ∷ others) task drawn calls =
    let rest = written_more worker part behind others task drawn calls.1 in
    let whole = written_by worker part (behind ++ task ∷ []) (others ++ drawn ∷ []) in
    let before = written_by worker part behind others in
    let last = cond (eqb task.worker worker) (going_to part task.operations drawn) [] in
    let going = going_to part first.operations own in
    elim (eqb first.worker worker) as (λ b. cond b (going ++ whole) whole ≡ cond b (going ++ before) before ++ last)
    [ true ↦ ap (λ l. going ++ l) rest ∙ sym (append_assoc going before last) | false ↦ rest ]

pub done_more : (parts before left : List (List (List Event))) (tasks : List Task) (done : List (List Event)) (task : Task) (drawn : List Event)
    → AreDone parts tasks done before → IsDrawn before task.worker task.line task.operations drawn left → AreDone parts (tasks ++ task ∷ []) (done ++ drawn ∷ []) left
done_more parts before left tasks done task drawn are is_drawn = record {
  fit = record {
    calls = zip_push IsTaskOf tasks done task drawn are.fit.calls is_drawn.fits.calls;
    own = λ part worker.
        let written = written_by worker part tasks done in
        let going = going_to part task.operations drawn in
        let more = written_more worker part tasks done task drawn are.fit.calls in
        ⊎_elim
        (λ (same : worker ≡ task.worker).
        let last : cond (eqb task.worker worker) going [] ≡ going = cond-true (eqb task.worker worker) going [] (eq-eqb task.worker worker (sym same)) in
        let taken : hand_of before part worker ≡ going ++ hand_of left part worker =
        ap (hand_of before part) same ∙ (is_drawn.fits.own part ∙ ap (λ w. going ++ hand_of left part w) (sym same)) in
        are.fit.own part worker
        ∙ (ap (λ l. written ++ l) taken
        ∙ (sym (append_assoc written going (hand_of left part worker)) ∙ ap (λ l. l ++ hand_of left part worker) (sym (more ∙ ap (λ l. written ++ l) last)))))
        (λ (other : worker ≡ task.worker → ⊥).
        let last : cond (eqb task.worker worker) going [] ≡ [] = cond-false (eqb task.worker worker) going [] (ne_eqb task.worker worker (λ e. other (sym e))) in
        are.fit.own part worker
        ∙ (ap (λ l. written ++ l) (sym (is_drawn.others part worker other))
        ∙ ap (λ l. l ++ hand_of left part worker) (sym (more ∙ (ap (λ l. written ++ l) last ∙ append-nil written)))))
        (cases_eq worker task.worker);
  };
  parts_stay = is_drawn.parts_stay ∙ are.parts_stay;
  workers_stay = λ part. is_drawn.workers_stay part ∙ are.workers_stay part;
}
