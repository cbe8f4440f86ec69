-- SPDX-License-Identifier: MIT
-- Octets that wait, go out or are lost.
use Rattle.std.proofs.Common.{◌≡◌, ℕ, zero, suc, ◌+◌, ◌<◌, ◌/◌, ◌%◌, slice_index, List, [], ◌∷◌, ◌++◌, length, take, drop, Option, Result, Ok, Err, IfErr, OnErr, Bool, true, false, refl, sym, ap, subst, ◌∙◌, append_assoc, append-nil, arith}
use Rattle.std.proofs.Math.ListN.{get_or}
use Rattle.std.proofs.Math.Seq.{take-append_seam, take-append-add, drop-cons}
use Rattle.std.proofs.KnownBytes.{Appends-nil, Appends-trans, Appends-kept}
use Rattle.std.specs.Io.KnownBytes.{Appends, Keeps}
use Rattle.hex.specs.Hex.{encode_with}
use Rattle.rrc_text.specs.Writer.{AppendsFront, LeavesText}
use Rattle.rrc_text.specs.declared.fault.ReplayFault.{ReplayFault}
use Rattle.rrc_text.specs.declared.fault.ReplayFault.TheVariants as faults
use Rattle.rrc_text.specs.declared.write.output.Output.{Output}
use Rattle.rrc_text.specs.Output.{Waits, Stands, OutputStands, Puts}

-- a beginning of octets is one of those and more
front_of : (count : ℕ) (given more : List ℕ) → (longer : ℕ) × (take count given ≡ take longer (given ++ more))
front_of zero given more = (0, refl)
front_of (suc count) [] more = (0, refl)
front_of (suc count) (octet ∷ given) more =
    let (longer, same) = front_of count given more in
    (suc longer, ap (λ octets. octet ∷ octets) same)

-- behind a failure more octets are given, and none goes out
pub lost : (start written : Option (List ℕ)) (given more : List ℕ) → AppendsFront start written given → AppendsFront start written (given ++ more)
lost start written given more (count, front) =
    let (longer, same) = front_of count given more in
    (longer, subst (Appends start written) same front)

-- all that waited goes out
pub all_gone : (start written after : Option (List ℕ)) (waiting given : List ℕ) → Waits start written waiting given → Appends written after waiting
    → Waits start after [] given
all_gone start written after waiting given waits goes =
    record {
      gone = waits.gone ++ waiting;
      went_out = Appends-trans start written after waits.gone waiting waits.went_out goes;
      rest = waits.rest ∙ sym (append-nil (waits.gone ++ waiting));
    }

-- a beginning of what waited goes out
pub front_gone : (start written after : Option (List ℕ)) (waiting given : List ℕ) → Waits start written waiting given → AppendsFront written after waiting
    → AppendsFront start after given
front_gone start written after waiting given waits (count, front) =
    let both : Appends start after (waits.gone ++ take count waiting) = Appends-trans start written after waits.gone (take count waiting) waits.went_out front in
    let same : waits.gone ++ take count waiting ≡ take (length waits.gone + count) given =
    sym (take-append-add waits.gone waiting count) ∙ ap (take (length waits.gone + count)) (sym waits.rest) in
    (length waits.gone + count, subst (Appends start after) same both)

-- more octets wait
pub more_waits : (start written : Option (List ℕ)) (waiting given more : List ℕ) → Waits start written waiting given
    → Waits start written (waiting ++ more) (given ++ more)
more_waits start written waiting given more waits =
    record {
      gone = waits.gone;
      went_out = waits.went_out;
      rest = ap (λ octets. octets ++ more) waits.rest ∙ append_assoc waits.gone waiting more;
    }

-- where nothing waits, all has gone out
pub none_waits : (start written : Option (List ℕ)) (given : List ℕ) → Waits start written [] given → Appends start written given
none_waits start written given waits = subst (Appends start written) (sym (waits.rest ∙ append-nil waits.gone)) waits.went_out

-- what has gone out is a beginning
pub front_stands : (start written : Option (List ℕ)) (waiting given : List ℕ) (failed : Bool) → Stands start written waiting failed given
    → AppendsFront start written given
front_stands start written waiting given true stands = stands
front_stands start written waiting given false stands = (
  length stands.gone,
  subst (Appends start written) (sym (ap (take (length stands.gone)) stands.rest ∙ take-append_seam stands.gone waiting)) stands.went_out,
)

pub front_kept : (start written after : Option (List ℕ)) (given : List ℕ) → AppendsFront start written given → Keeps written after → AppendsFront start after given
front_kept start written after given (count, front) kept = (count, Appends-kept start written after (take count given) front kept)

-- one text behind another
pub then : {W : Type 0} {contents : W → Option (List ℕ)} {before between after : Output W} {first second : List ℕ} → Puts contents before between first
    → Puts contents between after second → Puts contents before after (first ++ second)
then {contents = contents} {after = after} {first = first} {second = second} one other =
    record {
      same = other.same ∙ one.same;
      stands = λ start given stands.
          subst (OutputStands contents start after) (append_assoc given first second) (other.stands start (given ++ first) (one.stands start given stands));
    }

-- no text
pub nothing : {W : Type 0} {contents : W → Option (List ℕ)} {output : Output W} → Puts contents output output []
nothing {contents = contents} {output = output} =
    record { same = refl; stands = λ start given stands. subst (OutputStands contents start output) (sym (append-nil given)) stands }

-- a beginning of a whole text was given, and the rest of it is left
pub record Leaves {W : Type 0} (contents : W → Option (List ℕ)) (old now : Output W) (whole rest : List ℕ) : Type 0 where
  pub said : List ℕ
  pub puts : Puts contents old now said
  pub parts : said ++ rest ≡ whole

pub all_left : {W : Type 0} {contents : W → Option (List ℕ)} {output : Output W} {whole : List ℕ} → Leaves contents output output whole whole
all_left = record { said = []; puts = nothing; parts = refl }

-- a piece more was given
pub less_left : {W : Type 0} {contents : W → Option (List ℕ)} {old now after : Output W} {whole rest piece behind : List ℕ} → Leaves contents old now whole rest
    → rest ≡ piece ++ behind → Puts contents now after piece → Leaves contents old after whole behind
less_left {piece = piece} {behind = behind} leaves split puts =
    record {
      said = leaves.said ++ piece;
      puts = then leaves.puts puts;
      parts = append_assoc leaves.said piece behind ∙ ap (λ octets. leaves.said ++ octets) (sym split) ∙ leaves.parts;
    }

pub none_left : {W : Type 0} {contents : W → Option (List ℕ)} {old now : Output W} {whole rest : List ℕ} → Leaves contents old now whole rest → rest ≡ []
    → Puts contents old now whole
none_left {contents = contents} {old = old} {now = now} leaves none =
    subst (Puts contents old now) (sym (append-nil leaves.said) ∙ ap (λ octets. leaves.said ++ octets) (sym none) ∙ leaves.parts) leaves.puts

-- octets in hexadecimal, in two parts
pub encode_with-append : (digits front behind : List ℕ) → encode_with digits (front ++ behind) ≡ encode_with digits front ++ encode_with digits behind
unfolding encode_with
encode_with-append digits [] behind = refl
encode_with-append digits (octet ∷ front) behind =
    ap (λ rest. slice_index digits (octet / 16) ∷ slice_index digits (octet % 16) ∷ rest) (encode_with-append digits front behind)

pub encode_with-nil : (digits : List ℕ) → encode_with digits [] ≡ []
unfolding encode_with
encode_with-nil digits = refl

-- what is left begins with the next item
pub front_left : {A : Type 0} (all : List A) (i : ℕ) (item : A) → i < length all → item ≡ get_or all i item → drop i all ≡ item ∷ drop (i + 1) all
front_left all i item within is =
    let next : suc i ≡ i + 1 = omega arith in
    drop-cons all i item within ∙ (ap (λ place. get_or all i item ∷ drop place all) next ∙ ap (λ first. first ∷ drop (i + 1) all) (sym is))

-- nothing was given yet
pub nothing_given : (written : Option (List ℕ)) (waiting : List ℕ) → waiting ≡ [] → Waits written written waiting []
nothing_given written waiting empty = record { gone = []; went_out = Appends-nil written; rest = sym empty }

-- the fault of a write leaves a beginning
pub leaves_front : {T : Type 0} (result : Result T ReplayFault) (old new : Option (List ℕ)) (text : List ℕ) → IfErr result (λ fault. fault ≡ faults.Write)
    → OnErr result (AppendsFront old new text) → IfErr result (LeavesText old new text)
leaves_front (Ok done) old new text is front = tt
leaves_front (Err fault) old new text is front = subst (LeavesText old new text) (sym is) front
