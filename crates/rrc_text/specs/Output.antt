-- SPDX-License-Identifier: MIT
-- What became of a text that goes to a writer through a buffer.
use Rattle.std.specs.Prelude.{◌≡◌, ℕ, List, ◌++◌, Option, Bool, true, false}
use Rattle.std.specs.Io.KnownBytes.{Appends}
use Rattle.rrc_text.specs.Writer.{AppendsFront}
use Rattle.rrc_text.specs.declared.write.output.Output.{Output}

-- some of the octets that were given went out, and those behind them wait
pub record Waits (start written : Option (List ℕ)) (waiting given : List ℕ) : Type 0 where
  pub gone : List ℕ
  pub went_out : Appends start written gone
  pub rest : given ≡ gone ++ waiting

-- once a write has failed, a beginning of what was given went out, and nothing waits any more
abbrev pub Stands : Option (List ℕ) → Option (List ℕ) → List ℕ → Bool → List ℕ → Type 0
Stands start written waiting false given = Waits start written waiting given
Stands start written waiting true given = AppendsFront start written given

abbrev pub OutputStands : {W : Type 0} → (W → Option (List ℕ)) → Option (List ℕ) → Output W → List ℕ → Type 0
OutputStands contents start output given = Stands start (contents output.writer.now) output.buffer.now output.failed given

-- a text was given behind whatever was given before, to the same writer
pub record Puts {W : Type 0} (contents : W → Option (List ℕ)) (old new : Output W) (text : List ℕ) : Type 0 where
  pub same : new.writer.ghost_name ≡ old.writer.ghost_name
  pub stands : (start : Option (List ℕ)) (given : List ℕ) → OutputStands contents start old given → OutputStands contents start new (given ++ text)

-- all that was given has gone out
abbrev pub Ends : {W : Type 0} → (W → Option (List ℕ)) → Output W → Output W → Type 0
Ends contents old new = (start : Option (List ℕ)) (given : List ℕ) → OutputStands contents start old given → Appends start (contents new.writer.now) given

-- a beginning of what was given has gone out
abbrev pub EndsFront : {W : Type 0} → (W → Option (List ℕ)) → Output W → Output W → Type 0
EndsFront contents old new = (start : Option (List ℕ)) (given : List ℕ) → OutputStands contents start old given → AppendsFront start (contents new.writer.now) given
