-- SPDX-License-Identifier: MIT
-- `empty` owns nothing but its words.
use Rattle.std.proofs.Common.{List, [], ◌∷◌, ◌++◌, refl, sym, subst, lit<}
use Rattle.std.specs.Prelude.{None}
use mir.MapTy.{inst_fn}
use mir.Syntax.{Fn, w64}
use mir.Val.{Val, vint, vstruct, vcons, vnil, has_ty}
use base.Logic.{SProp, ent, id⊢}
use base.Fml.{ftrue, fsep, flft}
use contract.BorrowLft.{◌⊑◌}
use contract.Monad.{fact}
use contract.Running.{tables}
use prog.Wp.{WpFn}
use types.Kit.{Item, ‵, raw, ◌⊛◌, ◌$◌, ◌∵◌, !, qed, by, move, keep, drop, use1, join, split, fsplit, fjoin, fpack, feq_i, suffices, done}
use types.Run.{lit, no_more, and_then, returns, enter}
use types.ByLocal.{alloc_all, pass_all, free_all, look_at, get, sets}
use types.Part.{agg}
use denote.Exit.{yes}
use denote.RattleType.{RattleType, Valss}
use denote.RawPtr.{RawPtr, null_ptr, ptr_val}
use denote.Signature.{plain}
use denote.Steps.{nothing}
use denote.Struct.Struct.{within}
use denote.Struct.Owning.{shape, to}
use denote.Triple.Walked.{Stays, stay_dropped, Goes-dropped, walk_of, says, ends_at}
use Rattle.core.proofs.alloc.Calls.{α, handle_tells}
use Rattle.std.proofs.raw_atomic.Walks.{proved_at}
use Rattle.std_alloc.proofs.BoxSteps.Form.{R}
use Rattle.std_alloc.proofs.ResultValues.{and_tt}
use Rattle.std_heap.specs.contracts.Global as Heap
use Rattle.rrc_c.specs.contracts.boxed.Content as Content
use Rattle.rrc_c.specs.contracts.boxed.Content.empty as F
use Rattle.rrc_c.specs.contracts.boxed.Content.empty.Key.{name as #self}
use Rattle.rrc_c.proofs.AsBox.{E, S, args}
use Rattle.rrc_c.proofs.boxed.Content.empty.Statement.{statement}
use Rattle.rrc_c.proofs.boxed.Content.empty.Code as code

abbrev stayed : (X : RattleType) → Stays (F.ended X).signature.params (F.ended X).kept
stayed X = (stay_dropped (plain (λ _. Heap.the_row)) yes, tt)

pub empty_spec : {M : Type 1} → statement M
empty_spec 𝓤 𝓛 𝓜 𝓡 wired X L =
    let E = E X L in let S = S X L in let H = 𝓛.H in let fn : Fn = inst_fn (args X) code.function in
    let 𝓣 = tables 𝓤 H 𝓜 𝓡 𝓡.env in let c = F.clauses X 𝓛 𝓜.mem 𝓡.returns in
    proved_at 𝓛 (F.ended X) (stayed X) c 𝓜 𝓡 (Goes-dropped 𝓛 1 (plain (λ _. Heap.the_row)) yes (λ κs x f. refl), tt) (#self (args X)) fn (code.unfolded 𝓤 H 𝓜 𝓡 wired (X, tt)) (λ z are.
    let Post : Val → SProp 𝓤 = (walk_of 𝓛 (F.ended X) (stayed X) c).post z in
    let a = z.0.3.0 in let κ = z.0.0.0 in let q = z.0.1.0 in
    let made : S.Denot = record { at = null_ptr; alloc = a; held = None } in
    let word : Val → Val = λ hv. vstruct (vcons (vint w64 0) (vcons hv vnil)) in
    qed 𝓛 (((‵ (flft κ q) ⊛ ‵ ftrue) ⊛ ‵ (fsep (E.al.row.own_val a z.0.4.0) ftrue)) ∷ (raw (fact 𝓤 (κ ⊑ X.lives)) ⊛ ‵ ftrue) ∷ []) ∵ split ! $ split ! $ move ! (2 ∷ []) $ fsplit ! $
    handle_tells E.al ! a z.0.4.0 (λ hv ws fa. keep ! (0 ∷ 2 ∷ []) $
    let Γ : List (Item 𝓤) = ‵ (E.al.row.own_val a (hv ∷ [])) ∷ ‵ (flft κ q) ∷ [] in
    by ! (subst (λ (us : List Val). ent 𝓤 (types.Kit.⋆ 𝓛 Γ) (WpFn 𝓤 H 𝓣.C 𝓣.Λ fn (us ++ []) Post)) (sym ws)
    (qed 𝓛 Γ ∵ enter ! 𝓣.C 𝓣.Λ fn (hv ∷ []) _ $ alloc_all ! (λ ls. pass_all ! refl (fa, tt) $
    sets ! (agg ! (and_then ! (lit ! tt) (and_then ! (get ! refl) (no_more !)))) refl (and_tt (has_ty (α E.al) hv) fa.0, (record { fits = lit< tt }, (fa.1, tt))) $
    returns ! (look_at ! 0 refl) $ free_all ! refl $
    nothing ! $ move ! (1 ∷ 0 ∷ []) $ fjoin ! $ feq_i ! (List Val) (vint w64 0 ∷ []) (ptr_val null_ptr ∷ []) refl $ fjoin ! $
    feq_i ! (List Val) (word hv ∷ []) (word hv ∷ []) refl $ fjoin ! $
    fpack ! (Valss (RawPtr ∷ E.al.row ∷ [])) (within (shape (Content.the_type (R E))) (to (Content.the_type (R E)) made) (word hv ∷ [])) (vint w64 0 ∷ [], (hv ∷ [], tt)) $
    nothing ! $ move ! (1 ∷ 0 ∷ []) $ fjoin ! $ use1 𝓛 (‵ (S.own_val made (word hv ∷ []))) (id⊢ 𝓤 _) $
    suffices ! _ (ends_at 𝓛 (F.ended X) (stayed X) c z (word hv) made (tt, tt) (tt, tt)) $ says ! refl $
    nothing ! $ nothing ! $ fjoin ! $ join ! $ nothing ! $ move ! (2 ∷ 0 ∷ []) $ join ! $ join ! $ done !)))))
