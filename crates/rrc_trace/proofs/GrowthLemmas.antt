-- SPDX-License-Identifier: MIT
-- A piece grows by what is cut from the octets ahead, to its LF.
use Rattle.std.proofs.Common.{◌≡◌, ℕ, ◌<◌, Bool, true, false, List, [], ◌∷◌, ◌++◌, length, Option, Some, None, refl, sym, ap, subst, ◌∙◌, append_assoc}
use Rattle.std.specs.Io.KnownBytes.{Consumes, Keeps, IsAtEnd, prepend_known}
use Rattle.rrc_trace.specs.declared.read.trace.Ending.TheVariants.{Lf, Last, Endless}
use Rattle.rrc_text.specs.Cuts.{IsUnended, IsCut}
use Rattle.rrc_trace.specs.Pieces.{MovesPart, ReadsPiece}

unended-append : (piece part : List ℕ) → IsUnended piece → IsUnended part → IsUnended (piece ++ part)
unended-append [] part unended more = more
unended-append (octet ∷ piece) part unended more = (unended.0, unended-append piece part unended.1 more)

-- a piece that grew is cut where the part that it grew by is
cut-behind : (ended : Bool) (piece part : List ℕ) → IsUnended piece → IsCut ended part → IsCut ended (piece ++ part)
cut-behind true piece part unended cut =
    (piece ++ cut.0, unended-append piece cut.0 unended cut.1, ap (λ p. piece ++ p) cut.2 ∙ sym (append_assoc piece cut.0 (10 ∷ [])))
cut-behind false piece part unended cut = unended-append piece part unended cut

pub piece_cut : (ended : Bool) (ahead left piece longer : List ℕ) → IsUnended piece → MovesPart ahead left piece longer ended → IsCut ended longer
piece_cut ended ahead left piece longer unended moves = subst (IsCut ended) (sym moves.moved) (cut-behind ended piece moves.part unended moves.cut)

-- what was ahead or in the reader went to the piece, or is still there
pub consumes_part : (ended : Bool) (all old known : Option (List ℕ)) (ahead left piece longer : List ℕ) → Consumes all old piece
    → Keeps old (prepend_known ahead known) → MovesPart ahead left piece longer ended → Consumes all (prepend_known left known) longer
consumes_part ended None old known ahead left piece longer took kept moves = tt
consumes_part ended (Some octets) None known ahead left piece longer took kept moves = absurd took
consumes_part ended (Some octets) (Some rest) None ahead left piece longer took kept moves = absurd kept
consumes_part ended (Some octets) (Some rest) (Some known) ahead left piece longer took kept moves =
    let part = moves.part in
    took ∙ ap (λ r. piece ++ r) (sym kept ∙ ap (λ a. a ++ known) moves.taken ∙ append_assoc part left known)
    ∙ sym (append_assoc piece part (left ++ known)) ∙ ap (λ p. p ++ (left ++ known)) (sym moves.moved)

pub reads_to_lf : (all new : Option (List ℕ)) (piece : List ℕ) → Consumes all new piece → IsCut true piece → ReadsPiece all new piece Lf
reads_to_lf None new piece took cut = tt
reads_to_lf (Some octets) None piece took cut = absurd took
reads_to_lf (Some octets) (Some rest) piece took cut = (took, cut)

-- nothing is ahead, and the reader is at its end
pub reads_to_end : (all old known : Option (List ℕ)) (ahead piece : List ℕ) → Consumes all old piece → Keeps old (prepend_known ahead known)
    → ahead ≡ [] → IsAtEnd known → IsUnended piece → ReadsPiece all (prepend_known ahead known) piece Last
reads_to_end None old known ahead piece took kept none ended unended = tt
reads_to_end (Some octets) None known ahead piece took kept none ended unended = absurd took
reads_to_end (Some octets) (Some rest) None ahead piece took kept none ended unended = absurd kept
reads_to_end (Some octets) (Some rest) (Some known) ahead piece took kept none ended unended =
    (took ∙ ap (λ r. piece ++ r) (sym kept), (unended, (λ i. none i ++ ended i)))

pub reads_too_far : (all new : Option (List ℕ)) (piece : List ℕ) → Consumes all new piece → IsUnended piece → 140000 < length piece → ReadsPiece all new piece Endless
reads_too_far None new piece took unended long = tt
reads_too_far (Some octets) None piece took unended long = absurd took
reads_too_far (Some octets) (Some rest) piece took unended long = (took, (unended, long))

-- nothing was taken yet
pub consumes_none : (all : Option (List ℕ)) → Consumes all all []
consumes_none None = tt
consumes_none (Some octets) = refl

-- octets ahead and those of a reader are at their end together
pub at_end : (ahead : List ℕ) (known : Option (List ℕ)) → ahead ≡ [] → IsAtEnd known → IsAtEnd (prepend_known ahead known)
at_end ahead None none ended = tt
at_end ahead (Some octets) none ended = λ i. none i ++ ended i

pub reader_at_end : (ahead : List ℕ) (known : Option (List ℕ)) → IsAtEnd (prepend_known ahead known) → IsAtEnd known
reader_at_end ahead None ended = tt
reader_at_end [] (Some octets) ended = ended
reader_at_end (octet ∷ ahead) (Some octets) ended = absurd cc
