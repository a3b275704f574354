-- A line put together from its pieces; a line by the command's byte is the line of its call.
-- Assumes nothing.
use mathlib.Core.Path.{◌≡◌, refl, sym, ap, ap₂, ◌∙◌}
use mathlib.Core.Bool.{Bool, true, false, cond, false≢true}
use mathlib.Core.List.{List, [], ◌∷◌, ◌++◌}
use Prim.Native.Nat.{ℕ, ◌<◌}
use native.Mathlib.Omega.{arith}
use lib.Dec.{eqb}
use borrow.Author.Tests.{ne_eqb, eqb-true}
use Rattle.calls.specs.State.{Call, CallAnswer, create_call, delete_call, truncate_call, append_call}
use Rattle.call_write.specs.declared.Called.{Called}
use Rattle.std.specs.Prelude.{Option, Some, None, Result, Ok, Err}
use Rattle.call_decide.specs.Request.{position_of}
use Rattle.calls.specs.declared.Refusal.{Refusal}
use Rattle.calls.specs.Refused.{refusal_number}
use Rattle.calls.proofs.Refused.{refusal_some}
use Rattle.contracts.specs.Numbers.{called_numbers}
use Rattle.listing.specs.Internal.{Wrote}
use Rattle.listing.specs.Listing.{space, numbered, number_line, refusal}
use Rattle.listing.proofs.Writes.{on, reads, wrote_none_lem}
use Rattle.drive_commands.specs.Commands.{name_in, number_in, payload_in, position_by, width, call_by}
use Rattle.drive_commands.specs.Lines.{ok_word, position_text, told_of, counts_text, ok_line, line_by}
use Rattle.drive_commands.specs.Internal.{byte_of, told_for, ok_for, line_for}
use Rattle.drive_commands.specs.declared.Command.{Command}
use Rattle.drive_commands.specs.declared.Command.TheVariants.{Create, Append, Truncate, Delete}

-- ---- the pieces

module _ {s t : List ℕ} {p q : ℕ} (last : Option ℕ) where
  pub nowhere_on : last ≡ None → Wrote s p (32 ∷ 45 ∷ []) q t → Wrote s p (space ++ position_text (position_of last)) q t
  unfolding position_text
  nowhere_on e w = reads (sym (ap (λ (l : Option ℕ). space ++ position_text (position_of l)) e)) w

  pub at_on : (x : ℕ) → last ≡ Some x → Wrote s p (numbered space x) q t → Wrote s p (space ++ position_text (position_of last)) q t
  unfolding position_text numbered
  at_on x e w = reads (sym (ap (λ (l : Option ℕ). space ++ position_text (position_of l)) e)) w

module _ (k : Command) (a : Called) where
  pub append_told : {s t : List ℕ} {p q : ℕ} → k ≡ Append → Wrote s p (space ++ position_text (position_of a.last)) q t → Wrote s p (told_for (byte_of k) a) q t
  unfolding told_for
  append_told e w = reads (ap (λ (c : Command). told_for (byte_of c) a) (sym e)) w

  pub truncate_told : {s t : List ℕ} {p q : ℕ} → k ≡ Truncate → Wrote s p (numbered space a.evicted) q t → Wrote s p (told_for (byte_of k) a) q t
  unfolding told_for
  truncate_told e w = reads (ap (λ (c : Command). told_for (byte_of c) a) (sym e)) w

-- nothing is told of another command
pub none_told : (k : Command) (a : Called) (s : List ℕ) (p : ℕ) → (k ≡ Append → ⊥) → (k ≡ Truncate → ⊥) → Wrote s p (told_for (byte_of k) a) p s
unfolding told_for
none_told Create a s p h i = wrote_none_lem s p
none_told Append a s p h i = absurd (h refl)
none_told Truncate a s p h i = absurd (i refl)
none_told Delete a s p h i = wrote_none_lem s p

pub ok_on : {s t u v x : List ℕ} {p q r m n : ℕ} (b : ℕ) (a : Called) → Wrote s p ok_word q t → Wrote t q (told_for b a) r u
    → Wrote u r (numbered space a.frame_bytes) m v → Wrote v m (number_line space a.padding_bytes) n x → Wrote s p (ok_for b a) n x
unfolding ok_for
ok_on b a w x y z = on w (on x (on y z))

module _ {s t : List ℕ} {p q : ℕ} (b : ℕ) (answer : Result Called Refusal) where
  pub done_on : (a : Called) → answer ≡ Ok a → Wrote s p (ok_for b a) q t → Wrote s p (line_for b answer) q t
  unfolding line_for
  done_on a h w = reads (sym (ap (line_for b) h)) w

  pub refused_on : (r : Refusal) (n : ℕ) → answer ≡ Err r → n ≡ refusal_number r → Wrote s p (refusal n) q t → Wrote s p (line_for b answer) q t
  unfolding line_for
  refused_on r n h e w = reads (ap refusal e ∙ sym (ap (line_for b) h)) w

-- the line by a byte is that of its command, and of no command that of a create
pub known_line : {s t : List ℕ} {p q : ℕ} (k : Command) (b : ℕ) (answer : Result Called Refusal) → byte_of k ≡ b → Wrote s p (line_for (byte_of k) answer) q t
    → Wrote s p (line_for b answer) q t
known_line k b answer e w = reads (ap (λ (x : ℕ). line_for x answer) e) w

no_byte : (b : ℕ) → width b ≡ 0 → (n : ℕ) → (0 < width n) → eqb b n ≡ false
no_byte b e n h = ne_eqb b n (λ f. omega (arith, ap width f, e, h))

told_none : (b : ℕ) (a : Called) → eqb b 2 ≡ false → eqb b 3 ≡ false → told_for 1 a ≡ told_for b a
unfolding told_for
told_none b a i j =
    sym (ap₂ (λ (x y : Bool). cond x (space ++ position_text (position_of a.last)) (cond y (numbered space a.evicted) [])) i j)

pub unknown_line : {s t : List ℕ} {p q : ℕ} (b : ℕ) (answer : Result Called Refusal) → width b ≡ 0 → Wrote s p (line_for 1 answer) q t
    → Wrote s p (line_for b answer) q t
unfolding line_for ok_for width
unknown_line b (Ok a) e w =
    let i = no_byte b e 2 (omega arith) in
    let j = no_byte b e 3 (omega arith) in
    reads (ap (λ (l : List ℕ). ok_word ++ (l ++ (numbered space a.frame_bytes ++ number_line space a.padding_bytes))) (told_none b a i j)) w
unknown_line b (Err r) e w = w

pub refusal_on : {s t : List ℕ} {p q : ℕ} (n : ℕ) → Wrote s p (number_line (114 ∷ 101 ∷ 102 ∷ 117 ∷ 115 ∷ 101 ∷ 100 ∷ 32 ∷ []) n) q t → Wrote s p (refusal n) q t
unfolding refusal
refusal_on n w = w

-- ---- the line of the call

-- the call of a command, by the tests of its byte
abbrev call_on : Bool → Bool → Bool → List ℕ → Call
call_on i j k xs =
    cond i (create_call (name_in xs)) (cond j (append_call (name_in xs) (position_by (number_in xs)) (payload_in xs) (16 ∷ [])) (cond k (truncate_call (name_in xs) (number_in xs)) (delete_call (name_in xs))))

told_as : (i j k : Bool) (xs : List ℕ) (a : CallAnswer) → (i ≡ true → j ≡ false) → (i ≡ true → k ≡ false)
    → cond j (space ++ position_text a.last) (cond k (numbered space a.evicted) []) ≡ told_of (call_on i j k xs) a
unfolding told_of
told_as true true k xs a h l = absurd (false≢true (sym (h refl)))
told_as true false true xs a h l = absurd (false≢true (sym (l refl)))
told_as true false false xs a h l = refl
told_as false true k xs a h l = refl
told_as false false true xs a h l = refl
told_as false false false xs a h l = refl

line_as : (b : ℕ) (i j k : Bool) (xs : List ℕ) (answer : Result Called Refusal) → (i ≡ true → j ≡ false) → (i ≡ true → k ≡ false)
    → eqb b 2 ≡ j → eqb b 3 ≡ k → line_for b answer ≡ line_by (call_on i j k xs) (called_numbers answer)
unfolding line_for ok_for told_for called_numbers line_by ok_line counts_text
line_as b i j k xs (Ok a) h l p q =
    ap₂ (λ (x y : Bool). ok_word ++ (cond x (space ++ position_text (position_of a.last)) (cond y (numbered space a.evicted) []) ++ (numbered space a.frame_bytes ++ number_line space a.padding_bytes))) p q
    ∙ ap (λ (t : List ℕ). ok_word ++ (t ++ (numbered space a.frame_bytes ++ number_line space a.padding_bytes))) (told_as i j k xs (called_numbers (Ok a)) h l)
line_as b i j k xs (Err r) h l p q =
    sym (ap (λ (t : Bool). cond t (ok_line (call_on i j k xs) (called_numbers (Err r))) (refusal (refusal_number r))) (ne_eqb (refusal_number r) 0 (λ e. omega (arith, e, refusal_some r))))

pub line_is : (b : ℕ) (xs : List ℕ) (answer : Result Called Refusal) → line_for b answer ≡ line_by (call_by b xs) (called_numbers answer)
unfolding call_by
line_is b xs answer =
    line_as b (eqb b 1) (eqb b 2) (eqb b 3) xs answer
    (λ e. ne_eqb b 2 (λ f. omega (arith, eqb-true b 1 e, f))) (λ e. ne_eqb b 3 (λ f. omega (arith, eqb-true b 1 e, f))) refl refl
