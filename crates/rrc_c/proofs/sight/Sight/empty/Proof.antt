-- SPDX-License-Identifier: MIT
-- `empty` makes a sight that owns nothing but its word.
use Rattle.std.proofs.Common.{List, [], ◌∷◌, refl, lit<}
use Rattle.std.specs.Prelude.{None}
use mir.Val.{Val, vint, vstruct, vcons, vnil}
use mir.Syntax.{w64}
use base.Logic.{emp, id⊢}
use base.Fml.{ftrue}
use contract.Running.{tables}
use types.Kit.{‵, raw, ◌⊛◌, ◌$◌, ◌∵◌, !, qed, move, drop, use1, join, split, fjoin, fpack, feq_i, suffices, done}
use types.Run.{lit, no_more, and_then, returns, enter}
use types.ByLocal.{alloc_all, pass_all, free_all, look_at, sets}
use types.Part.{agg}
use denote.RattleType.{Valss}
use denote.RawPtr.{RawPtr, null_ptr, ptr_val}
use denote.Steps.{nothing}
use denote.Struct.Struct.{within}
use denote.Struct.Owning.{shape, to}
use denote.Triple.Walked.{Stays, says, ends_at}
use Rattle.std.proofs.raw_atomic.Walks.{proved_at}
use Rattle.rrc_c.specs.contracts.sight.Sight as sight
use Rattle.rrc_c.specs.contracts.sight.Sight.empty as F
use Rattle.rrc_c.specs.contracts.sight.Sight.empty.Key.{name as #self}
use Rattle.rrc_c.proofs.sight.Sight.empty.Statement.{statement}
use Rattle.rrc_c.proofs.sight.Sight.empty.Code as code

abbrev stayed : Stays (F.ended).signature.params (F.ended).kept
stayed = tt

pub empty_spec : {M : Type 1} → statement M
empty_spec 𝓤 𝓛 𝓜 𝓡 wired =
    let H = 𝓛.H in let 𝓣 = tables 𝓤 H 𝓜 𝓡 𝓡.env in let En = F.ended in let c = F.clauses 𝓛 𝓜.mem 𝓡.returns in
    proved_at 𝓛 En stayed c 𝓜 𝓡 tt #self code.function (code.unfolded 𝓤 H 𝓜 𝓡 wired) (λ z are.
    let made : sight.the_row.Denot = record { at = null_ptr; shelf = None; life = 0 } in
    let word : Val = vstruct (vcons (vint w64 0) vnil) in
    qed 𝓛 ((‵ ftrue ⊛ ‵ ftrue) ∷ raw (emp 𝓤) ∷ []) ∵ split ! $ drop ! $ drop ! $ drop ! $
    enter ! 𝓣.C 𝓣.Λ code.function [] _ $ alloc_all ! (λ ls. pass_all ! refl tt $
    sets ! (agg ! (and_then ! (lit ! tt) (no_more !))) refl (tt, (record { fits = lit< tt }, tt)) $
    returns ! (look_at ! 0 refl) $ free_all ! refl $
    nothing ! $ feq_i ! (List Val) (vint w64 0 ∷ []) (ptr_val null_ptr ∷ []) refl $ fjoin ! $
    feq_i ! (List Val) (word ∷ []) (word ∷ []) refl $ fjoin ! $
    fpack ! (Valss (RawPtr ∷ [])) (within (shape sight.the_type) (to sight.the_type made) (word ∷ [])) (vint w64 0 ∷ [], tt) $
    nothing ! $ move ! (1 ∷ 0 ∷ []) $ fjoin ! $ use1 𝓛 (‵ (sight.the_row.own_val made (word ∷ []))) (id⊢ 𝓤 _) $
    suffices ! _ (ends_at 𝓛 En stayed c z word made tt tt) $ says ! refl $
    nothing ! $ join ! $ nothing ! $ join ! $ done !))
