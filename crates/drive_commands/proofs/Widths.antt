-- The width of a command's operands, whether a command stands at a place, and the position that an append names.
-- Assumes nothing.
use mathlib.Core.Path.{◌≡◌, refl, sym, ap, ◌∙◌}
use mathlib.Core.Bool.{Bool, true, false, cond, not, ◌&&◌}
use mathlib.Core.List.{List}
use Prim.Native.Nat.{ℕ, suc, ◌-◌, ◌≤◌, ◌<◌}
use native.Mathlib.Omega.{arith}
use lib.Dec.{ltb, leb, eqb}
use lib.ListN.{length, drop, get_or, length-drop, drop_of_length-le}
use lib.Seq.{drop-cons}
use borrow.Author.Tests.{lt-ltb}
use Rattle.queues.specs.Queues.{no_position, at}
use Rattle.std.specs.Prelude.{Option, Some, None}
use Rattle.call_decide.specs.Request.{position_of}
use Rattle.drive_commands.specs.Commands.{position_by, width, is_command}
use Rattle.drive_commands.specs.Internal.{byte_of, starts_command}
use Rattle.drive_commands.specs.declared.Command.{Command}
use Rattle.drive_commands.specs.declared.Command.TheVariants.{Create, Append, Truncate, Delete}

-- ---- whether a command stands there

abbrev fits : ℕ → ℕ → Bool
fits w left = ltb 0 w && leb w left

-- each command has operands
pub wide : (k : Command) → 0 < width (byte_of k)
unfolding width
wide Create = omega arith
wide Append = omega arith
wide Truncate = omega arith
wide Delete = omega arith

pub unknown : (b left : ℕ) → width b ≡ 0 → false ≡ fits (width b) left
unknown b left z = sym (ap (λ (w : ℕ). fits w left) z)

pub known : (b n left : ℕ) → 0 < width b → n ≡ width b → leb n left ≡ fits (width b) left
known b n left h e =
    ap (λ (w : ℕ). leb w left) e ∙ sym (ap (λ (t : Bool). t && leb (width b) left) (lt-ltb 0 (width b) h))

module _ (input : List ℕ) (p : ℕ) where
  pub none_there : length input ≤ p → false ≡ starts_command (drop p input)
  unfolding starts_command
  none_there h = sym (ap starts_command (drop_of_length-le input {i = p} h))

  pub some_there : (r : Bool) → p < length input → r ≡ fits (width (get_or input p 0)) (length input - p - 1) → r ≡ starts_command (drop p input)
  unfolding starts_command is_command
  some_there r h e =
      let n : length input - p - 1 ≡ length (drop (suc p) input) = omega (arith, length-drop (suc p) input) in
      e ∙ ap (fits (width (get_or input p 0))) n ∙ sym (ap starts_command (drop-cons input p 0 h))

-- ---- the position of an append

pub named : (p q : ℕ) (x : Option ℕ) → x ≡ cond (not (eqb p 0xFFFFFFFFFFFFFFFF)) (Some p) None → p ≡ q → position_of x ≡ position_by q
unfolding position_by
named p q x h e = ap position_of h ∙ by (eqb p 0xFFFFFFFFFFFFFFFF) ∙ ap (λ (n : ℕ). cond (eqb n 0xFFFFFFFFFFFFFFFF) no_position (at n)) e
  where
    by : (t : Bool) → position_of (cond (not t) (Some p) None) ≡ cond t no_position (at p)
    by true = refl
    by false = refl
