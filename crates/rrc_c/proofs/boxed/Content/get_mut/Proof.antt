-- SPDX-License-Identifier: MIT
-- `get_mut` reads the pointer, and lends what lies there.
use Rattle.std.proofs.Common.{◌≡◌, ℕ, List, [], ◌∷◌, refl, MutBor}
use Rattle.std.specs.Prelude.{Option, IsSome}
use seplogic.Ra.Ura.{Ura}
use base.Fraction.{full_share}
use base.Logic.{ent, sep, id⊢}
use base.Fml.{GName, Fml, ftrue, fsep, flft}
use contract.BorrowLft.{◌⊑◌}
use contract.Monad.{fact}
use contract.Running.{tables}
use mir.Syntax.{Fn, named}
use mir.MapTy.{inst_fn}
use mir.Val.{Val, vptr}
use mir.Raw.{raw as bare}
use types.Logic.{Logic, sem}
use types.Kit.{‵, raw, ◌⊛◌, some, later, at_ret, ◌$◌, ◌∵◌, !, qed, move, keep, drop, use1, split, join, pick, rewrite, fsplit, fsplit3, fjoin, fpack, await, group, suffices, frame, done}
use types.Part.{whole, sub, look_in}
use types.Run.{stop, fld, hop, of_opd, first, blocks, exec, returns, enter, addr}
use types.ByLocal.{alloc_all, pass_all, free_all, look_at, get, through, sets, env, sets_last}
use denote.Exit.{no}
use denote.Param.Laws.{Laws}
use denote.Follow.{Part, follows, lends_Part}
use denote.Memory.{part_at, mem, cell_at, part_of}
use denote.RattleType.{RattleType}
use denote.RawPtr.{block_ptr}
use denote.Ref.{MutRef, mut_vals, mut_Tells}
use denote.Signature.{plain, mut_ref_to}
use denote.Steps.{nothing, heard, opens}
use denote.Triple.Walked.{says, Stays, stay_dropped, walk_of, ends_at, Goes-spent_ref}
use Rattle.std.proofs.raw_atomic.Walks.{proved}
use Rattle.std.proofs.VecSteps.Shapes.{after}
use Rattle.core.proofs.alloc.Calls.{token}
use Rattle.std_alloc.proofs.BoxSteps.Form.{D, B, R, τ, word, handle}
use Rattle.std_alloc.proofs.BoxSteps.Steps.{box_out, box_in}
use Rattle.rrc_c.specs.Boxed.{with_value}
use Rattle.rrc_c.specs.contracts.boxed.Content.get_mut as F
use Rattle.rrc_c.specs.contracts.boxed.Content.get_mut.Key.{name as #self}
use Rattle.rrc_c.proofs.AsBox.{E, S, args, by_held}
use Rattle.rrc_c.proofs.boxed.Content.get_mut.Statement.{statement}
use Rattle.rrc_c.proofs.boxed.Content.get_mut.Code as code

module _ (X : RattleType) (L : Laws X) where
  abbrev stayed : Stays (F.ended X).signature.params (F.ended X).kept
  stayed = (stay_dropped (mut_ref_to (0 ∷ []) tt (plain (λ _. S X L))) no, tt)

  module _ {M : Type 1} {𝓤 : Ura M} (𝓛 : Logic 𝓤) (h : (S X L).Denot) (rb ro b o : ℕ) (hv : Val) where
    -- all but its value
    abbrev Rest : Fml
    Rest = fsep (fsep (token (E X L).al h.alloc (bare (τ (E X L))) (block_ptr b o)) (handle (E X L) h.alloc hv)) (cell_at full_share (S X L).mir (word (E X L) hv b o ∷ []) rb ro)

    back : h.at ≡ block_ptr b o → (w : X.Denot) → ent 𝓤 (sep 𝓤 (sem 𝓛 ((mem (R (E X L))).own_at w b o)) (sem 𝓛 Rest)) (sem 𝓛 ((mem (S X L)).own_at (with_value (R (E X L)) h w) rb ro))
    unfolding part_of
    back at_b w =
        let v : D (E X L) = record { ptr = h.at; alloc = h.alloc; value = w } in let h' = with_value (R (E X L)) h w in
        qed 𝓛 (‵ (part_at (R (E X L)) full_share w b o) ∷ ‵ Rest ∷ []) ∵ move ! (1 ∷ []) $ fsplit ! $ fsplit ! $ move ! (3 ∷ []) $
        box_in (E X L) ! v b o w at_b refl $ use1 𝓛 (‵ ((S X L).own_val h' (word (E X L) hv b o ∷ []))) (id⊢ 𝓤 _) $ move ! (1 ∷ 0 ∷ []) $ fjoin ! $
        fpack ! (List Val) (λ us. fsep (cell_at full_share (S X L).mir us rb ro) ((S X L).own_val h' us)) (word (E X L) hv b o ∷ []) $ done !

pub get_mut_spec : {M : Type 1} → statement M
get_mut_spec 𝓤 𝓛 𝓜 𝓡 wired X L =
    let S = S X L in let E = E X L in let T = R E in let fn : Fn = inst_fn (args X) code.function in
    let c = F.clauses X 𝓛 𝓜.mem 𝓡.returns in let W = walk_of 𝓛 (F.ended X) (stayed X L) c in let 𝓣 = tables 𝓤 𝓛.H 𝓜 𝓡 𝓡.env in
    proved 𝓛 (F.ended X) (stayed X L) c 𝓜 𝓡 (Goes-spent_ref 𝓛 2 (0 ∷ []) tt (plain (λ _. S)), tt) (#self (args X)) fn (code.unfolded 𝓤 𝓛.H 𝓜 𝓡 wired (X, tt))
    (λ κs. (mut_vals, tt)) (λ κs. (mut_Tells (named 0) κs.0 S, tt)) (λ κs qs bounds a _ are.
    let κ = κs.0 in let q = qs.0 in let γ = a.0.ghost_name in let rb = a.0.ref_ptr.0 in let ro = a.0.ref_ptr.1 in let h = a.0.now in let vs = mut_vals a.0 in
    let y : W.Ghost = ((κs, qs, bounds, a, (vs, tt)), tt) in
    qed 𝓛 (((‵ (flft κ q) ⊛ ‵ (flft κs.1.0 qs.1.0) ⊛ ‵ ftrue) ⊛ ‵ ((MutRef (named 0) κ S).own_val a.0 vs) ⊛ ‵ ftrue) ∷ (raw (fact 𝓤 (κs.1.0 ⊑ X.lives)) ⊛ raw (fact 𝓤 (IsSome h.held))) ∷ []) ∵
    move ! (1 ∷ []) $ split ! $ drop ! $ heard ! (IsSome h.held) (λ holds. by_held h.held holds (λ x is.
    split ! $ split ! $ move ! (2 ∷ []) $ split ! $ move ! (1 ∷ []) $ drop ! $ move ! (2 ∷ []) $ split ! $ move ! (1 ∷ []) $ drop ! $ move ! (1 ∷ 2 ∷ 0 ∷ []) $
    enter ! 𝓣.C 𝓣.Λ fn vs _ $ alloc_all ! (λ l. pass_all ! refl ((tt, tt), tt) $
    -- [self; the token of κ; the other token]
    fsplit3 ! $ move ! (1 ∷ 2 ∷ 3 ∷ []) $ opens ! tt S {h = h} rb ro (λ us. move ! (1 ∷ []) $
    rewrite ! 0 (λ (held : Option X.Denot). ‵ (S.own_val (record { at = h.at; alloc = h.alloc; held = held }) us)) is refl $
    let v : D E = record { ptr = h.at; alloc = h.alloc; value = x } in
    use1 𝓛 (‵ ((B E).own_val v us)) (id⊢ 𝓤 _) $ box_out E ! v us (λ b o hv at_b ws fa. move ! (1 ∷ 2 ∷ []) $ fjoin ! $ move ! (1 ∷ []) $
    rewrite ! 2 (λ (ws : List Val). ‵ (cell_at full_share S.mir ws rb ro)) ws refl $
    first ! $ blocks ! $
    sets_last ! (addr ! (through ! refl (fld ! refl (hop ! (look_in ! 2 (sub ! 0 refl (whole !))) (stop !))))) refl (tt, tt) $
    exec ! 𝓣.C 𝓣.Λ (env fn.locals l) (after 1 fn.body) (at_ret _ (W.post y)) $
    sets ! (of_opd ! (get ! refl)) refl (tt, tt) $
    move ! (1 ∷ 2 ∷ []) $ fjoin ! $ move ! (2 ∷ 3 ∷ 4 ∷ 1 ∷ 0 ∷ []) $ group ! 5 $
    let rest = sem 𝓛 (Rest X L 𝓛 h rb ro b o hv) in let way = back X L 𝓛 h rb ro b o hv at_b in
    use1 𝓛 (later (some (λ (γ' : GName). raw (Part 𝓛 S T (with_value T h) (named 0) κ q rb ro b o γ rest way x γ'))))
    (lends_Part 𝓛 S T (with_value T h) (named 0) κ q rb ro b o γ rest way (S.coded.code h) (S.coded.code h) x) $ await ! tt $ pick ! (λ γ'.
    returns ! (look_at ! 0 refl) $ free_all ! refl $ keep ! (0 ∷ 2 ∷ []) $
    let r : MutBor X.Denot = record { ref_ptr = (b, o); ghost_name = γ'; now = x } in
    use1 𝓛 (‵ ((MutRef (named 0) κ T).own_val r (vptr b o ∷ [])) ⊛ ‵ (flft κ q) ⊛ ‵ (follows S T γ γ' (with_value T h))) (id⊢ 𝓤 _) $ split ! $ move ! (1 ∷ []) $ split ! $
    -- [the token of κ; how the content follows; the reference; the other token]
    move ! (2 ∷ 0 ∷ 3 ∷ 1 ∷ []) $ suffices ! _ (ends_at 𝓛 (F.ended X) (stayed X L) c y (vptr b o) r (tt, tt) (tt, tt)) $
    nothing ! $ nothing ! $ fjoin ! $ join ! $ nothing ! $ move ! (3 ∷ 0 ∷ []) $ join ! $ move ! (2 ∷ 0 ∷ []) $ join ! $ join ! $ frame ! $ says ! is $ done !)))))))
