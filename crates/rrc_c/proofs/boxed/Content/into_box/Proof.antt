-- SPDX-License-Identifier: MIT
-- `into_box` hands what is owned to `from_raw`.
use mathlib.Core.Path.{◌≡◌, ◌∙◌, refl, sym, subst, ap}
use mathlib.Core.List.{List, [], ◌∷◌, ◌++◌}
use lib.Dec.{T}
use mir.Syntax.{Fn, Body, place, copy, assign, rv_opd, seq, return}
use mir.MapTy.{inst_fn}
use mir.Val.{Val, vptr, has_ty, WT}
use base.Logic.{SProp, ent, emp, id⊢}
use base.Fml.{ftrue, fsep, flft}
use contract.BorrowLft.{◌⊑◌, ⊑_static}
use contract.Monad.{fact, fact_i}
use contract.Running.{tables}
use prog.Wp.{WpFn}
use types.Kit.{Item, at_ret, ‵, raw, ◌⊛◌, some, later, ◌$◌, ◌∵◌, !, qed, by, move, keep, drop, use0, use1, join, split, split3, pick, rewrite, fsplit, fjoin, feq_i, suffices, await, done}
use types.Part.{whole, sub}
use types.Run.{stop, fld, no_more, and_then, of_opd, returns, enter, first, blocks, exec}
use types.ByLocal.{alloc_all, pass_all, free_all, look_at, get, get_in, sets, lands_last, env}
use denote.Exit.{no}
use denote.Param.Laws.{Laws}
use denote.Param.NoDrop.{glues}
use denote.RattleType.{RattleType}
use denote.RawPtr.{block_ptr}
use denote.Signature.{plain}
use denote.Steps.{heard, nothing, only}
use denote.Triple.Call.{calls_at_last}
use denote.Triple.Spec.{triple_of}
use denote.Triple.Statement.{Contract}
use denote.Triple.Table.{framed}
use denote.Triple.Walked.{says, Stays, stay_dropped, walk_of, ends_at}
use Rattle.core.proofs.alloc.Calls.{token, Goes-blank}
use Rattle.std.proofs.raw_atomic.Walks.{proved_at}
use Rattle.std.specs.Prelude.{Option, Some, IsSome}
use Rattle.std.specs.Box.Ownership.{box_owns}
use Rattle.std_alloc.proofs.BoxSteps.Form.{D, R, P, B, box_ty, word, box_typed}
use Rattle.std_alloc.proofs.BoxSteps.Steps.{box_out, box_in}
use Rattle.std_heap.proofs.GlobalAllocator.TheImpl.Met.{passed}
use Rattle.std_alloc.specs.contracts.boxed.Box.from_raw as Fr
use Rattle.std_alloc.proofs.boxed.Box.from_raw.Met.{met}
use Rattle.rrc_c.specs.contracts.boxed.Content.into_box as F
use Rattle.rrc_c.specs.contracts.boxed.Content.into_box.Key.{name as #self}
use Rattle.rrc_c.proofs.AsBox.{E, S, args, by_held}
use Rattle.rrc_c.proofs.boxed.Content.into_box.Statement.{statement}
use Rattle.rrc_c.proofs.boxed.Content.into_box.Code as code

abbrev rest : Body
rest = seq (assign (place 0 []) (rv_opd (copy (place 4 [])))) return

abbrev stayed : (X : RattleType) (L : Laws X) → Stays (F.ended X).signature.params (F.ended X).kept
stayed X L = (stay_dropped (plain (λ _. S X L)) no, tt)

pub into_box_spec : {M : Type 1} → statement M
unfolding Rattle.rrc_c.proofs.Destruct++none.drop.Code.code
into_box_spec {M} 𝓤 𝓛 𝓜 𝓡 wired X L =
    let E = E X L in let S = S X L in let H = 𝓛.H in let fn : Fn = inst_fn (args X) code.function in
    let 𝓣 = tables 𝓤 H 𝓜 𝓡 𝓡.env in let c = F.clauses X 𝓛 𝓜.mem 𝓡.returns in
    let Shuts : Contract 𝓤 = triple_of 𝓛 (Fr.signature E.row E.al.row E.al.g E.al.d E.al.drops) (Fr.spec E.row E.al.row E.al.g E.al.d E.al.drops 𝓛 𝓜.mem 𝓡.returns) in
    let known = met 𝓤 𝓛 𝓜 𝓡 (code.calls-std_alloc::boxed::Box::from_raw 𝓡.env wired) E.row E.al.row E.laws E.al.laws E.al.g E.al.d E.al.drops
    (passed 𝓡.env (code.calls-std_heap::GlobalAllocator::allocate 𝓡.env wired) (code.calls-std_heap::GlobalAllocator::deallocate 𝓡.env wired) (code.calls-std_heap::GlobalAllocator::grow 𝓡.env wired) (code.calls-std_heap::GlobalAllocator::shrink 𝓡.env wired) M 𝓤 𝓛 𝓜 𝓡)
    (glues "rrc_c::Destruct++none::drop" 𝓡.env (code.calls-rrc_c::Destruct++none::drop 𝓡.env wired) E.al.row E.al.laws M 𝓤 𝓛 𝓜 𝓡) in
    proved_at 𝓛 (F.ended X) (stayed X L) c 𝓜 𝓡 (Goes-blank 𝓛 1 (plain (λ _. S)) no (λ κs x f. tt), tt) (#self (args X)) fn (code.unfolded 𝓤 H 𝓜 𝓡 wired (X, tt)) (λ z are.
    let h = z.0.3.0 in let a = h.alloc in let κ = z.0.0.0 in let q = z.0.1.0 in let Post : Val → SProp 𝓤 = (walk_of 𝓛 (F.ended X) (stayed X L) c).post z in
    let ts : Item 𝓤 = ‵ (flft κ q) ⊛ ‵ (flft [] q) ⊛ ‵ ftrue in
    qed 𝓛 (((‵ (flft κ q) ⊛ ‵ ftrue) ⊛ ‵ (fsep (S.own_val h z.0.4.0) ftrue)) ∷ (raw (fact 𝓤 (κ ⊑ X.lives)) ⊛ raw (fact 𝓤 (IsSome h.held))) ∷ []) ∵
    move ! (1 ∷ []) $ split ! $ move ! (1 ∷ []) $ heard ! (IsSome h.held) (λ holds. by_held h.held holds (λ x more.
    -- [that κ is alive; the token with the content]
    move ! (1 ∷ []) $ split ! $ split ! $ move ! (2 ∷ []) $ fsplit ! $
    rewrite ! 0 (λ (held : Option X.Denot). ‵ (S.own_val (record { at = h.at; alloc = a; held = held }) z.0.4.0)) more refl $
    let v : D E = record { ptr = h.at; alloc = a; value = x } in
    use1 𝓛 (‵ ((B E).own_val v z.0.4.0)) (id⊢ 𝓤 _) $ box_out E ! v z.0.4.0 (λ b o hv e ws fa. fjoin ! $
    let w = word E hv b o in
    let y : Shuts.Ghost = (((κ, ([], tt)), (q, (q, tt)), tt, (a, (block_ptr b o, tt)), (hv ∷ [], (vptr b o ∷ [], tt))), x) in
    -- [what a box owns; the handle; true; the token; true; that κ is alive]
    let Γ : List (Item 𝓤) = ‵ (box_owns (token E.al a) (R E) (block_ptr b o) x) ∷ ‵ ((P E).own_val a (hv ∷ [])) ∷ ‵ ftrue ∷ ‵ (flft κ q) ∷ ‵ ftrue ∷ raw (fact 𝓤 (κ ⊑ X.lives)) ∷ [] in
    by ! (subst (λ (us : List Val). ent 𝓤 (types.Kit.⋆ 𝓛 Γ) (WpFn 𝓤 H 𝓣.C 𝓣.Λ fn (us ++ []) Post)) (sym ws)
    (qed 𝓛 Γ ∵ enter ! 𝓣.C 𝓣.Λ fn (w ∷ []) _ $ alloc_all ! (λ ls. pass_all ! refl (box_typed E hv b o fa, tt) $
    sets ! (of_opd ! (get_in ! (fld ! refl (stop !)) (sub ! 0 refl (whole !)))) refl (tt, tt) $ sets ! (of_opd ! (get_in ! (fld ! refl (stop !)) (sub ! 1 refl (whole !)))) refl fa $
    first ! $ blocks ! $
    use0 𝓛 (raw (fact 𝓤 ([] ⊑ E.al.row.lives))) (fact_i 𝓤 ([] ⊑ E.al.row.lives) (emp 𝓤) (⊑_static [])) $ join ! $ move ! (5 ∷ 0 ∷ []) $ join ! $
    -- [what it requires; the handle; true; the token; true]
    move ! (2 ∷ []) $ feq_i ! (List Val) (vptr b o ∷ []) (vptr b o ∷ []) refl $ fjoin ! $ move ! (2 ∷ 0 ∷ []) $ fjoin ! $
    move ! (3 ∷ []) $ use0 𝓛 (‵ (flft [] q)) (𝓛.lfts.lft-nil q) $ join ! $ move ! (3 ∷ 0 ∷ []) $ join ! $ join ! $ join ! $ use1 𝓛 (raw (Shuts.pre y)) (id⊢ 𝓤 _) $
    calls_at_last ! (framed 𝓤 H 𝓜 𝓣) Shuts known y (and_then ! (get ! refl) (and_then ! (get ! refl) (no_more !))) (λ u.
    use1 𝓛 (later (some (λ (r : D E). (ts ⊛ ‵ ((B E).own_val r (u ∷ []))) ⊛ some (λ (_ : Unit {0} × (Unit {0} × Unit {0})). ‵ (fsep ftrue (fsep ftrue ftrue)) ⊛ (raw (fact 𝓤 (r.value ≡ x)) ⊛ raw (fact 𝓤 (r.alloc ≡ a))))))) (id⊢ 𝓤 _) $
    await ! tt $ pick ! (λ r. split ! $ move ! (1 ∷ []) $ pick ! (λ _. split3 ! $ drop ! $ heard ! (r.value ≡ x) (λ same. drop ! $ split ! $ split ! $ move ! (2 ∷ []) $
    box_out E ! r (u ∷ []) (λ b' o' hw e' wu fw. box_in E ! r b' o' r.value e' refl $ rewrite ! 0 (λ (us : List Val). ‵ ((B E).own_val r us)) (sym wu) refl $
    let typed : T (has_ty (box_ty E) u) × WT u = subst (λ (s : Val). T (has_ty (box_ty E) s) × WT s) (sym (ap only wu)) (box_typed E hw b' o' fw) in
    lands_last ! refl typed $ exec ! 𝓣.C 𝓣.Λ (env fn.locals ls) rest (at_ret (env fn.locals ls) Post) $
    sets ! (of_opd ! (get ! refl)) refl typed $ returns ! (look_at ! 0 refl) $ free_all ! refl $ keep ! (0 ∷ 1 ∷ []) $
    suffices ! _ (ends_at 𝓛 (F.ended X) (stayed X L) c z u r (tt, tt) (tt, tt)) $ says ! (more ∙ (λ i. Some (sym same i))) $
    nothing ! $ nothing ! $ fjoin ! $ join ! $ nothing ! $ move ! (2 ∷ 0 ∷ []) $ join ! $ join ! $ done !))))))))))))
