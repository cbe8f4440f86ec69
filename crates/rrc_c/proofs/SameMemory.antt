-- SPDX-License-Identifier: MIT
-- A `&mut` to a struct is one to another struct too, which lies in memory and owns as the first one does.
use Rattle.std.proofs.Common.{◌≡◌, ℕ, [], ◌∷◌, refl}
use Rattle.std.specs.Borrow.{Lends, MutBor}
use Rattle.std.specs.Prelude.{Option}
use Rattle.core.specs.Option.{ghost_name_of}
use Rattle.rrc_c.specs.Boxed.{holding}
use Rattle.rrc_c.specs.declared.boxed.Boxed.{Boxed}
use borrow.Follows.Closed.{read_of}
use seplogic.Ra.Ura.{Ura}
use base.Logic.{ent, sep, emp, id⊢, via, fst∗}
use base.Fml.{GName, ftrue, flft}
use contract.Monad.{fact}
use mir.Syntax.{Fn, Ty, named, erased, mut, ty_ptr, ty_ref, local, value_local, place, deref, copy, rv_opd, addr_of, seq, assign, block, return}
use mir.Val.{vptr}
use prog.Wp.{WpFn, Tables}
use sound.WpLaws.{WpFn-mono}
use types.Logic.{Logic, sem}
use types.Kit.{‵, raw, ◌⊛◌, some, later, at_ret, ◌$◌, ◌∵◌, !, qed, move, keep, use1, split, join, pick, fsplit3, fjoin, await, group, suffices, frame, done}
use types.Run.{stop, of_opd, first, blocks, exec, returns, enter, addr}
use types.ByLocal.{alloc_all, pass_all, free_all, look_at, get, through, sets, env, sets_last}
use denote.Builtin.{One, RefMutOf}
use denote.Exit.{no}
use denote.Follow.{Part, follows, lends_Part}
use denote.Memory.{mem}
use denote.RattleType.{RattleType}
use denote.Ref.{MutRef, mut_vals, mut_Tells}
use denote.Signature.{plain, mut_ref_to}
use denote.Steps.{nothing}
use types.Mut.{open_ref}
use denote.Triple.Clauses.{closing, Clauses, Ended}
use denote.Triple.Spec.{Meets}
use denote.Triple.Walked.{says, Stays, stay_dropped, walk_of, walked, walk_Meets, ends_at, Goes-spent_ref}
use Rattle.std.proofs.VecSteps.Shapes.{after}

-- the code: the two structs as types behind a reference, and as those of a place
abbrev pub fn : Ty → Ty → Ty → Ty → Fn
fn σ τ σ' τ' = record {
  lifetimes = 1;
  outlives = [];
  ty_params = [];
  givens = 0;
  params = 1;
  locals = local (ty_ref (named 0) mut τ) value_local ∷ local (ty_ref (named 0) mut σ) value_local ∷ local (ty_ref erased mut τ) value_local ∷ local ty_ptr value_local ∷ local ty_ptr value_local ∷ [];
  body = seq (block (seq (assign (place 3 []) (addr_of (place 1 (deref σ' ∷ [])))) (seq (assign (place 4 []) (rv_opd (copy (place 3 [])))) (assign (place 2 []) (addr_of (place 4 (deref τ' ∷ [])))))))
      (seq (assign (place 0 []) (rv_opd (copy (place 2 [])))) return);
}

module _ (S T : RattleType) (one-S : One S.mir) (one-T : One T.mir) (to : S.Denot → T.Denot) (from : T.Denot → S.Denot) where
  abbrev pub ended : Ended
  ended = record { signature = record { lifetimes = 1; outlives = []; params = RefMutOf (0 ∷ []) tt (plain (λ _. S)) (λ _. one-S) ∷ []; result = RefMutOf (0 ∷ []) tt (plain (λ _. T)) (λ _. one-T) }; kept = (no, tt) }

  abbrev stayed : Stays ended.signature.params ended.kept
  stayed = (stay_dropped (mut_ref_to (0 ∷ []) tt (plain (λ _. S))) no, tt)

  module _ {M : Type 1} {𝓤 : Ura M} (𝓛 : Logic 𝓤) (𝓣 : Tables 𝓤 𝓛.H) where
    open 𝓛 use {H}

    abbrev pub spec : Clauses 𝓤 ended
    spec κs a = record { ghost = Unit {0}; requires = λ _. emp 𝓤; ensures = λ _ r _. sep 𝓤 (sem 𝓛 (Lends S T a.0 r from)) (fact 𝓤 (r.now ≡ to a.0.now)) }

    pub meets : (σ τ σ' τ' : Ty) → ((h : S.Denot) (b o : ℕ) → ent 𝓤 (sem 𝓛 ((mem S).own_at h b o)) (sem 𝓛 ((mem T).own_at (to h) b o)))
        → ((w : T.Denot) (b o : ℕ) → ent 𝓤 (sem 𝓛 ((mem T).own_at w b o)) (sem 𝓛 ((mem S).own_at (from w) b o)))
        → Meets 𝓛 ended.signature (WpFn 𝓤 H 𝓣.C 𝓣.Λ (fn σ τ σ' τ')) (closing 𝓛 ended spec)
    meets σ τ σ' τ' forth back =
        walk_Meets 𝓛 ended stayed (Goes-spent_ref 𝓛 1 (0 ∷ []) tt (plain (λ _. S)), tt) spec (WpFn 𝓤 H 𝓣.C 𝓣.Λ (fn σ τ σ' τ')) (WpFn-mono 𝓤 H 𝓛.laws 𝓣 (fn σ τ σ' τ'))
        (walked 𝓛 ended stayed spec (WpFn 𝓤 H 𝓣.C 𝓣.Λ (fn σ τ σ' τ')) (λ κs. (mut_vals, tt)) (λ κs. (mut_Tells (named 0) κs.0 S, tt)) (λ κs qs bounds a g are.
        let κ = κs.0 in let q = qs.0 in let γ = a.0.ghost_name in let b = a.0.ref_ptr.0 in let o = a.0.ref_ptr.1 in let h = a.0.now in let vs = mut_vals a.0 in
        let W = walk_of 𝓛 ended stayed spec in let y : W.Ghost = ((κs, qs, bounds, a, (vs, tt)), tt) in
        qed 𝓛 (((‵ (flft κ q) ⊛ ‵ ftrue) ⊛ ‵ ((MutRef (named 0) κ S).own_val a.0 vs) ⊛ ‵ ftrue) ∷ raw (emp 𝓤) ∷ []) ∵
        split ! $ split ! $ move ! (2 ∷ []) $ split ! $ keep ! (0 ∷ 2 ∷ []) $
        enter ! 𝓣.C 𝓣.Λ (fn σ τ σ' τ') vs _ $ alloc_all ! (λ l. pass_all ! refl ((tt, tt), tt) $
        fsplit3 ! $ move ! (1 ∷ 2 ∷ 3 ∷ []) $ open_ref ! tt (mem S) {b = b} {o = o} $
        first ! $ blocks ! $
        sets ! (addr ! (through ! refl (stop !))) refl (tt, tt) $
        sets ! (of_opd ! (get ! refl)) refl (tt, tt) $
        sets_last ! (addr ! (through ! refl (stop !))) refl (tt, tt) $
        exec ! 𝓣.C 𝓣.Λ (env (fn σ τ σ' τ').locals l) (after 1 (fn σ τ σ' τ').body) (at_ret _ (W.post y)) $
        sets ! (of_opd ! (get ! refl)) refl (tt, tt) $
        use1 𝓛 (‵ ((mem T).own_at (to h) b o)) (forth h b o) $ nothing ! $ move ! (2 ∷ 3 ∷ 4 ∷ 1 ∷ 0 ∷ []) $ group ! 5 $
        let way = λ (w : T.Denot). via 𝓤 _ (fst∗ 𝓤 _ (sem 𝓛 ftrue)) (back w b o) in
        use1 𝓛 (later (some (λ (γ' : GName). raw (Part 𝓛 S T from (named 0) κ q b o b o γ (sem 𝓛 ftrue) way (to h) γ'))))
        (lends_Part 𝓛 S T from (named 0) κ q b o b o γ (sem 𝓛 ftrue) way (S.coded.code h) (S.coded.code h) (to h)) $ await ! tt $ pick ! (λ γ'.
        returns ! (look_at ! 0 refl) $ free_all ! refl $ keep ! (0 ∷ []) $
        let r : MutBor T.Denot = record { ref_ptr = (b, o); ghost_name = γ'; now = to h } in
        use1 𝓛 (‵ ((MutRef (named 0) κ T).own_val r vs) ⊛ ‵ (flft κ q) ⊛ ‵ (follows S T γ γ' from)) (id⊢ 𝓤 _) $ split ! $ move ! (1 ∷ []) $ split ! $ move ! (2 ∷ 0 ∷ 1 ∷ []) $
        suffices ! _ (ends_at 𝓛 ended stayed spec y (vptr b o) r (tt, tt) (tt, tt)) $
        nothing ! $ nothing ! $ fjoin ! $ join ! $ nothing ! $ move ! (2 ∷ 0 ∷ []) $ join ! $ join ! $ frame ! $ says ! refl $ done !))))

-- a handle ends alike by what is lent of equal ones
pub same_lent : {H : Type 0} (T : RattleType) (from : Boxed T.Denot → H) (r : Option (MutBor T.Denot)) {s s' : Boxed T.Denot} → s ≡ s'
    → read_of (ghost_name_of r) (λ w. from (holding T s w)) (from s) ≡ read_of (ghost_name_of r) (λ w. from (holding T s' w)) (from s')
same_lent T from r same = λ i. read_of (ghost_name_of r) (λ w. from (holding T (same i) w)) (from (same i))
