-- SPDX-License-Identifier: MIT
-- A piece of a text says a line, as it is read, exactly where it is that line by the grammar.
use Rattle.std.proofs.Common.{◌≡◌, ◌==◌, ◌<◌, ◌≤◌, ◌↔◌, ℕ, ◌+◌, ◌-◌, List, [], ◌∷◌, ◌++◌, length, take, slice_index, get_or, Option, Some, None, Bool, true, false, refl, sym, ap, subst, ◌∙◌, arith, nat_le, leb-true, le-leb, eqb-true, eq-eqb, ne_eqb, append_assoc, length-append, get_or-append-add, take_at, take_all}
use Rattle.std.proofs.lemmas.Bool.Decides.{nat_tests}
use Rattle.std.proofs.lemmas.List.{take_more}
use Rattle.rrc_trace.specs.declared.line.Line.{Line}
use Rattle.rrc_text.specs.Gives.{◌>>=◌}
use Rattle.rrc_trace.specs.Lines.{line_of, before_last, without_cr, bounded, line_ended, line_of_piece}
use Rattle.rrc_trace.specs.Grammar.{MOST_OCTETS, EndsWith, EndsLine, lf, cr_lf, text_end, IsLine}
use Rattle.rrc_trace.proofs.FormLemmas.{line-says, line-read}
use Rattle.rrc_text.proofs.SaidLemmas.{said_first, said_last}

no_length : (octets : List ℕ) → (length octets == 0) ≡ false → 0 < length octets
no_length octets some = grind (arith, nat_tests, some)

-- the octets before the last one, where that is this one
before_last-says : (octets : List ℕ) (last : ℕ) (front : List ℕ) → before_last octets last ≡ Some front → octets ≡ front ++ last ∷ []
before_last-says octets last front is = by (length octets == 0) refl (slice_index octets (length octets - 1) == last) refl
  where
    by : (none : Bool) → (length octets == 0) ≡ none → (same : Bool) → (slice_index octets (length octets - 1) == last) ≡ same → octets ≡ front ++ last ∷ []
    by true none same at = let never : None ≡ Some front = rw none at is in absurd cc
    by false some false at = let never : None ≡ Some front = rw (some, at) at is in absurd cc
    by false some true at =
        let cut : take (length octets - 1) octets ≡ front = said_last (rw (some, at) at is) in
        let within : length octets - 1 < length octets = omega (arith, no_length octets some) in
        let whole : length octets - 1 + 1 ≡ length octets = omega (arith, within) in
        sym (take_all (length octets) octets (omega arith)) ∙ ap (λ (n : ℕ). take n octets) (sym whole) ∙ take_more octets (length octets - 1) 0 within
        ∙ (ap (λ (l : List ℕ). l ++ get_or octets (length octets - 1) 0 ∷ []) cut ∙ ap (λ (o : ℕ). front ++ o ∷ []) (eqb-true (get_or octets (length octets - 1) 0) last at))

before_last-of : (front : List ℕ) (last : ℕ) → before_last (front ++ last ∷ []) last ≡ Some front
before_last-of front last =
    let size : length (front ++ last ∷ []) ≡ length front + 1 = length-append front (last ∷ []) in
    let some : (length (front ++ last ∷ []) == 0) ≡ false = ne_eqb (length (front ++ last ∷ [])) 0 (λ none. omega (arith, size, none)) in
    let end : length (front ++ last ∷ []) - 1 ≡ length front + 0 = omega (arith, size) in
    let at : slice_index (front ++ last ∷ []) (length (front ++ last ∷ []) - 1) ≡ last =
    ap (slice_index (front ++ last ∷ [])) end ∙ get_or-append-add front (last ∷ []) 0 0 in
    let same : (slice_index (front ++ last ∷ []) (length (front ++ last ∷ []) - 1) == last) ≡ true = eq-eqb (slice_index (front ++ last ∷ []) (length (front ++ last ∷ []) - 1)) last at in
    rw (some, same) (ap (λ (l : List ℕ). found l) (take_at front (last ∷ []) (length (front ++ last ∷ []) - 1) (omega (arith, size))))
  where
    found : List ℕ → Option (List ℕ)
    found l = Some l

not_last : (octets : List ℕ) (last : ℕ) → before_last octets last ≡ None → EndsWith last octets → ⊥
not_last octets last is ends =
    let never : None ≡ Some ends.0 = sym is ∙ ap (λ (o : List ℕ). before_last o last) ends.1 ∙ before_last-of ends.0 last in absurd cc

none_last : (octets : List ℕ) (last : ℕ) → (EndsWith last octets → ⊥) → before_last octets last ≡ None
none_last octets last never = by (before_last octets last) refl
  where
    by : (front : Option (List ℕ)) → before_last octets last ≡ front → before_last octets last ≡ None
    by None is = is
    by (Some front) is = absurd (never (front, before_last-says octets last front is))

record IsBounded (octets within : List ℕ) : Type 0 where
  same : octets ≡ within
  few : length octets ≤ MOST_OCTETS

bounded-says : (octets within : List ℕ) → bounded octets ≡ Some within → IsBounded octets within
bounded-says octets within is = by (nat_le (length octets) 140000) refl
  where
    by : (few : Bool) → nat_le (length octets) 140000 ≡ few → IsBounded octets within
    by false few = let never : None ≡ Some within = rw few at is in absurd cc
    by true few = record { same = said_last (rw few at is); few = leb-true (length octets) 140000 few }

bounded-is : (octets : List ℕ) → length octets ≤ MOST_OCTETS → bounded octets ≡ Some octets
bounded-is octets few = rw (le-leb (length octets) 140000 few) refl

is_line-of : (piece octets : List ℕ) (line : Line) → EndsLine piece octets → line_of octets ≡ Some line → IsLine piece line
is_line-of piece octets line ends is =
    let has = line-says octets line is in record { octets = octets; fields = has.fields; ends = ends; apart = has.apart; says = has.says }

-- octets before an LF
lf-says : (octets : List ℕ) (line : Line) → length octets ≤ MOST_OCTETS → line_of (without_cr octets) ≡ Some line → IsLine (octets ++ 10 ∷ []) line
lf-says octets line few is = by (before_last octets 13) refl
  where
    by : (front : Option (List ℕ)) → before_last octets 13 ≡ front → IsLine (octets ++ 10 ∷ []) line
    by None none =
        let said : line_of octets ≡ Some line = rw none at is in
        is_line-of (octets ++ 10 ∷ []) octets line (lf (not_last octets 13 none) few) said
    by (Some front) cr =
        let said : line_of front ≡ Some line = rw cr at is in
        let whole : octets ≡ front ++ 13 ∷ [] = before_last-says octets 13 front cr in
        let piece : front ++ 13 ∷ 10 ∷ [] ≡ octets ++ 10 ∷ [] = sym (append_assoc front (13 ∷ []) (10 ∷ [])) ∙ ap (λ (o : List ℕ). o ++ 10 ∷ []) (sym whole) in
        let within : length front + 1 ≤ MOST_OCTETS = omega (arith, few, ap length whole, length-append front (13 ∷ [])) in
        subst (λ (p : List ℕ). IsLine p line) piece (is_line-of (front ++ 13 ∷ 10 ∷ []) front line (cr_lf within) said)

piece-says : (piece : List ℕ) (line : Line) → line_of_piece piece ≡ Some line → IsLine piece line
piece-says piece line is = by (before_last piece 10) refl
  where
    by : (front : Option (List ℕ)) → before_last piece 10 ≡ front → IsLine piece line
    by (Some octets) ends =
        let said : bounded octets >>= (λ octets. line_of (without_cr octets)) ≡ Some line = ap (line_ended piece) (sym ends) ∙ is in
        let within = said_first (bounded octets) _ line said in
        let bound = bounded-says octets within.0 within.1.0 in
        let told : line_of (without_cr octets) ≡ Some line = ap (λ (o : List ℕ). line_of (without_cr o)) bound.same ∙ within.1.1 in
        subst (λ (p : List ℕ). IsLine p line) (sym (before_last-says piece 10 octets ends)) (lf-says octets line bound.few told)
    by None none =
        let said : bounded piece >>= line_of ≡ Some line = ap (line_ended piece) (sym none) ∙ is in
        let within = said_first (bounded piece) line_of line said in
        let bound = bounded-says piece within.0 within.1.0 in
        is_line-of piece piece line (text_end (not_last piece 10 none) bound.few) (ap line_of bound.same ∙ within.1.1)

ends-read : (piece octets : List ℕ) (line : Line) → EndsLine piece octets → line_of octets ≡ Some line → line_of_piece piece ≡ Some line
ends-read piece octets line (lf no_cr few) is =
    ap (line_ended piece) (before_last-of octets 10)
    ∙ (ap (λ (o : Option (List ℕ)). o >>= (λ octets. line_of (without_cr octets))) (bounded-is octets few) ∙ rw (none_last octets 13 no_cr) is)
ends-read piece octets line (cr_lf few) is =
    ap line_of_piece (sym (append_assoc octets (13 ∷ []) (10 ∷ [])))
    ∙ (ap (line_ended ((octets ++ 13 ∷ []) ++ 10 ∷ [])) (before_last-of (octets ++ 13 ∷ []) 10)
    ∙ (ap (λ (o : Option (List ℕ)). o >>= (λ octets. line_of (without_cr octets))) (bounded-is (octets ++ 13 ∷ []) (omega (arith, few, length-append octets (13 ∷ []))))
    ∙ rw (before_last-of octets 13) is))
ends-read piece octets line (text_end no_lf few) is =
    ap (line_ended piece) (none_last piece 10 no_lf) ∙ (ap (λ (o : Option (List ℕ)). o >>= line_of) (bounded-is piece few) ∙ is)

pub is_line : (piece : List ℕ) (line : Line) → (line_of_piece piece ≡ Some line) ↔ IsLine piece line
is_line piece line =
    (λ says. piece-says piece line says, λ is. ends-read piece is.octets line is.ends (line-read is.octets is.fields line is.apart is.says))

-- a piece that no line is says none
pub no_line : (piece : List ℕ) → ((line : Line) → IsLine piece line → ⊥) → line_of_piece piece ≡ None
no_line piece never = by (line_of_piece piece) refl
  where
    by : (said : Option Line) → line_of_piece piece ≡ said → line_of_piece piece ≡ None
    by None is = is
    by (Some line) is = absurd (never line ((is_line piece line).0 is))
