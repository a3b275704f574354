-- The call that a command byte makes, from what the functions over lent memory ensure of it.
-- Assumes nothing.
use mathlib.Core.Path.{◌≡◌, sym, ap, ap₂, subst, ◌∙◌}
use mathlib.Core.List.{List, [], ◌∷◌}
use Prim.Native.Nat.{ℕ, ◌≤◌, ◌<◌}
use native.Mathlib.Omega.{arith}
use lib.ListN.{length}
use Rattle.queues.specs.Queues.{Position}
use Rattle.calls.specs.State.{Call, CallAnswer, create_call, delete_call, truncate_call, append_call}
use Rattle.abi_call.specs.OnBytes.{LentBytes}
use Rattle.abi_tables.specs.Tables.{CallOnTables}
use Rattle.drive_commands.specs.Commands.{name_in, number_in, payload_in, position_by, width, call_by}
use Rattle.drive_calls.proofs.Turns.{width_some}

-- another word for the same call
module _ {g g' : LentBytes} {a : CallAnswer} where
  pub asks : {k k' : Call} → k ≡ k' → CallOnTables g k a g' → CallOnTables g k' a g'
  asks e w = subst (λ (k : Call). CallOnTables g k a g') e w

  pub appends : {n run ks : List ℕ} {p q : Position} → p ≡ q → CallOnTables g (append_call n p run ks) a g' → CallOnTables g (append_call n q run ks) a g'
  appends {n} {run} {ks} e w = asks (ap (λ (x : Position). append_call n x run ks) e) w

module _ (b : ℕ) (xs : List ℕ) where
  -- ---- the operands are there

  pub has_name : 0 < width b → width b ≤ length xs → 8 ≤ length xs
  has_name h l = omega (arith, width_some b h, l)

  pub has_number : b ≡ 3 → width b ≤ length xs → 16 ≤ length xs
  unfolding width
  has_number e l = let w : width b ≡ 16 = ap width e in omega (arith, w, l)

  pub has_payload : b ≡ 2 → width b ≤ length xs → 32 ≤ length xs
  unfolding width
  has_payload e l = let w : width b ≡ 32 = ap width e in omega (arith, w, l)

  -- ---- the call

  module _ (n : List ℕ) (f : n ≡ name_in xs) where
    pub create_is : b ≡ 1 → create_call n ≡ call_by b xs
    unfolding call_by
    create_is e = ap create_call f ∙ sym (ap (λ (c : ℕ). call_by c xs) e)

    pub append_is : b ≡ 2 → append_call n (position_by (number_in xs)) (payload_in xs) (16 ∷ []) ≡ call_by b xs
    unfolding call_by
    append_is e = ap (λ (m : List ℕ). append_call m (position_by (number_in xs)) (payload_in xs) (16 ∷ [])) f ∙ sym (ap (λ (c : ℕ). call_by c xs) e)

    pub truncate_is : (p : ℕ) → p ≡ number_in xs → b ≡ 3 → truncate_call n p ≡ call_by b xs
    unfolding call_by
    truncate_is p h e = ap₂ truncate_call f h ∙ sym (ap (λ (c : ℕ). call_by c xs) e)

    pub delete_is : b ≡ 4 → delete_call n ≡ call_by b xs
    unfolding call_by
    delete_is e = ap delete_call f ∙ sym (ap (λ (c : ℕ). call_by c xs) e)
