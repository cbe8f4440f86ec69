-- SPDX-License-Identifier: MIT
-- What one item does to a name that is read.
use Rattle.std.proofs.Common.{◌≡◌, ℕ, zero, suc, ◌+◌, ◌-◌, ◌<◌, ◌≤◌, List, [], ◌∷◌, ◌++◌, length, Option, Some, None, Ok, Err, refl, sym, ap, subst, ◌∙◌, arith, length-append, unwrap_or, MatchOption, slice_index}
use Rattle.std.specs.Prelude.{slice_range}
use Rattle.rrc_name.proofs.WireForms.{all_labels-push, front_of-push}
use Rattle.rrc_name.proofs.Spelling.{AreLabels}
use Rattle.rrc_wire.specs.declared.fault.WireFault.{WireFault}
use Rattle.rrc_wire.specs.Item.{End, Label, Pointer, RunOf, item_at, to_end}
use Rattle.rrc_wire.specs.Name.{name_from, name_at}
use Rattle.rrc_wire.proofs.Items.{LabelStands, item_at-Label, item_at-Pointer, slice_range-label, length-slice_range, octets-slice_range}

-- behind the labels so far, what is left to read is the rest of the name
pub record Goes (message : List ℕ) (first run : RunOf) (before : List ℕ) (behind : Option ℕ) (place : ℕ) : Type 0 where
  pub items : ℕ
  pub enough : run.start + 256 ≤ items + length before
  pub same : name_from items message run before behind place ≡ name_at message first

-- a pointer that was met stood before the end of the first run
pub record StandsIn (message : List ℕ) (first run : RunOf) (behind : Option ℕ) : Type 0 where
  pub within : run.end ≤ length message
  pub first_run : MatchOption behind (run ≡ first) (λ next. next ≤ first.end)

pub goes-begin : (message : List ℕ) (first : RunOf) → Goes message first first [] None first.start
goes-begin message first = record { items = first.start + 256; enough = omega arith; same = refl }

pub labels-more : (message : List ℕ) (run : RunOf) (before : List ℕ) (octets place : ℕ) → ((i : ℕ) → slice_index message i < 256) → run.end ≤ length message
    → LabelStands message run (length before) place octets → AreLabels before → AreLabels (before ++ slice_range message place (place + 1 + octets))
labels-more message run before octets place small within stands are =
    let label = slice_range message (place + 1) (place + 1 + octets) in
    let size : length label ≡ octets = omega (arith, length-slice_range message (place + 1) (place + 1 + octets) (omega arith) (omega (arith, stands.within))) in
    let parts : slice_range message place (place + 1 + octets) ≡ length label ∷ label =
    slice_range-label message place octets stands.length_octet (omega (arith, stands.within)) ∙ ap (λ n. n ∷ label) (sym size) in
    record {
      labels = are.labels ++ label ∷ [];
      all = all_labels-push are.labels label are.all (record { some = omega (arith, stands.some); few = omega (arith, stands.few); octets = octets-slice_range message (place + 1) (place + 1 + octets) small });
      octets = front_of-push are.labels label ∙ (ap (λ b. b ++ length label ∷ label) are.octets ∙ ap (λ p. before ++ p) (sym parts));
      room = omega (arith, stands.room, ap length parts, length-append before (slice_range message place (place + 1 + octets)));
    }

pub no_labels : AreLabels []
no_labels = record { labels = []; all = tt; octets = refl; room = omega arith }

-- an item that is a fault is the name's
pub name_from-Err : (items : ℕ) (message : List ℕ) (run : RunOf) (before : List ℕ) (behind : Option ℕ) (place : ℕ) (fault : WireFault) → 0 < items
    → item_at message run (length before) place ≡ Err fault → name_from items message run before behind place ≡ Err fault
name_from-Err zero message run before behind place fault some h = absurd (omega arith)
name_from-Err (suc items) message run before behind place fault some h = rw (name_from, h) refl

pub name_from-End : (items : ℕ) (message : List ℕ) (run : RunOf) (before : List ℕ) (behind : Option ℕ) (place : ℕ) → 0 < items
    → item_at message run (length before) place ≡ Ok End → name_from items message run before behind place ≡ Ok (before ++ 0 ∷ [], unwrap_or behind (place + 1))
name_from-End zero message run before behind place some h = absurd (omega arith)
name_from-End (suc items) message run before behind place some h = rw (name_from, h) refl

pub name_from-Label : (items : ℕ) (message : List ℕ) (run : RunOf) (before : List ℕ) (behind : Option ℕ) (place octets : ℕ) → 0 < items
    → item_at message run (length before) place ≡ Ok (Label octets)
    → name_from items message run before behind place ≡ name_from (items - 1) message run (before ++ slice_range message place (place + 1 + octets)) behind (place + 1 + octets)
name_from-Label zero message run before behind place octets some h = absurd (omega arith)
name_from-Label (suc items) message run before behind place octets some h =
    let less : suc items - 1 ≡ items = omega arith in rw (less, name_from, h) refl

pub name_from-Pointer : (items : ℕ) (message : List ℕ) (run : RunOf) (before : List ℕ) (behind : Option ℕ) (place target : ℕ) → 0 < items
    → item_at message run (length before) place ≡ Ok (Pointer target)
    → name_from items message run before behind place ≡ name_from (items - 1) message (to_end message target) before (Some (unwrap_or behind (place + 2))) target
name_from-Pointer zero message run before behind place target some h = absurd (omega arith)
name_from-Pointer (suc items) message run before behind place target some h =
    let less : suc items - 1 ≡ items = omega arith in rw (less, name_from, h) refl

pub goes-Err : (message : List ℕ) (first run : RunOf) (before : List ℕ) (behind : Option ℕ) (place : ℕ) (fault : WireFault) → length before ≤ 254
    → Goes message first run before behind place → item_at message run (length before) place ≡ Err fault → name_at message first ≡ Err fault
goes-Err message first run before behind place fault room goes h =
    sym goes.same ∙ name_from-Err goes.items message run before behind place fault (omega (arith, goes.enough)) h

pub goes-End : (message : List ℕ) (first run : RunOf) (before : List ℕ) (behind : Option ℕ) (place : ℕ) → length before ≤ 254
    → Goes message first run before behind place → item_at message run (length before) place ≡ Ok End → name_at message first ≡ Ok (before ++ 0 ∷ [], unwrap_or behind (place + 1))
goes-End message first run before behind place room goes h =
    sym goes.same ∙ name_from-End goes.items message run before behind place (omega (arith, goes.enough)) h

pub goes-Label : (message : List ℕ) (first run : RunOf) (before : List ℕ) (behind : Option ℕ) (place octets : ℕ) → length before ≤ 254 → run.end ≤ length message
    → Goes message first run before behind place → item_at message run (length before) place ≡ Ok (Label octets)
    → Goes message first run (before ++ slice_range message place (place + 1 + octets)) behind (place + 1 + octets)
goes-Label message first run before behind place octets room within goes h =
    let stands = item_at-Label message run (length before) place octets h in
    let more : length (slice_range message place (place + 1 + octets)) ≡ place + 1 + octets - place = length-slice_range message place (place + 1 + octets) (omega arith) (omega (arith, stands.within)) in
    record {
      items = goes.items - 1;
      enough = omega (arith, goes.enough, more, length-append before (slice_range message place (place + 1 + octets)));
      same = sym (name_from-Label goes.items message run before behind place octets (omega (arith, goes.enough)) h) ∙ goes.same;
    }

pub goes-Pointer : (message : List ℕ) (first run : RunOf) (before : List ℕ) (behind : Option ℕ) (place target : ℕ) → length before ≤ 254
    → Goes message first run before behind place → item_at message run (length before) place ≡ Ok (Pointer target)
    → Goes message first (to_end message target) before (Some (unwrap_or behind (place + 2))) target
goes-Pointer message first run before behind place target room goes h =
    let stands = item_at-Pointer message run (length before) place target h in
    record {
      items = goes.items - 1;
      enough = omega (arith, goes.enough, stands.lower);
      same = sym (name_from-Pointer goes.items message run before behind place target (omega (arith, goes.enough)) h) ∙ goes.same;
    }

-- the place behind the first run's last item is in it
pub behind-within : (message : List ℕ) (first run : RunOf) (behind : Option ℕ) (next : ℕ) → StandsIn message first run behind → next ≤ run.end → unwrap_or behind next ≤ first.end
behind-within message first run None next stands le = subst (λ (r : RunOf). next ≤ r.end) stands.first_run le
behind-within message first run (Some place) next stands le = stands.first_run
