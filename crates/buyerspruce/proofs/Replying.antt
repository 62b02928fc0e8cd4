-- The reply with room for its four numbers and without: what is returned, what is written, what is left alone. Assumes nothing.
use mathlib.Core.Path.{◌≡◌, refl, sym, ◌∙◌, ap, subst}
use mathlib.Core.Logic.{⊎_elim}
use mathlib.Core.Bool.{Bool, cond}
use mathlib.Core.List.{List, [], ◌∷◌, ◌++◌}
use Prim.Native.Nat.{ℕ, ◌≤◌, ◌<◌}
use lib.ListN.{length, get_or, drop, set}
use lib.Seq.{sets-eq}
use borrow.Author.Tests.{lt-ltb, le-ltb}
use Rattle.graphs.proofs.Bools.{lt_or_le}
use Rattle.buyerspruce.specs.declared.reply.Numbers.{Numbers}
use Rattle.std.specs.Prelude.{Result, Ok, Err}
use Rattle.sets.specs.declared.refusal.Refusal.{Refusal}
use Rattle.night.specs.Answers.{night_answer}
use Rattle.colouring.specs.Colour.{colour_answer}
use Rattle.buyerspruce.specs.Reply.{number_or_refused, night_numbers, colour_numbers, listed, no_room, if_room, laid, kind, Replies}

-- four stores
pub four_stored : (old : List ℕ) (a b c d : ℕ) → 4 ≤ length old → set (set (set (set old 0 a) 1 b) 2 c) 3 d ≡ (a ∷ b ∷ c ∷ d ∷ []) ++ drop 4 old
four_stored old a b c d h = sets-eq (a ∷ b ∷ c ∷ d ∷ []) old 0 h

-- too short a reply: 255, and everything as it came
module _ (reply : List ℕ) (short : length reply < 4) where
  pub left_alone : (new old : List ℕ) → old ≡ if_room reply new old
  unfolding if_room no_room
  left_alone new old = sym (ap (λ (b : Bool). cond b old new) (lt-ltb (length reply) 4 short))

  pub silent : {numbers : List ℕ} → Replies numbers reply 255 reply
  unfolding kind laid no_room
  silent {numbers} =
      record {
        returned = sym (ap (λ (b : Bool). cond b 255 (get_or numbers 0 0)) (lt-ltb (length reply) 4 short));
        replied = left_alone (numbers ++ drop 4 reply) reply;
      }

-- room for the reply: the four numbers are put there, and the first is returned
module _ (reply : List ℕ) (room : 4 ≤ length reply) where
  pub passed_on : {new now : List ℕ} (old : List ℕ) → now ≡ new → now ≡ if_room reply new old
  unfolding if_room no_room
  passed_on {new} old e = e ∙ sym (ap (λ (b : Bool). cond b old new) (le-ltb (length reply) 4 room))

  pub told : {r : ℕ} {said numbers after : List ℕ} → said ≡ numbers → r ≡ get_or said 0 0 → after ≡ said ++ drop 4 reply → Replies numbers reply r after
  unfolding kind laid no_room
  told {numbers = numbers} e f g =
      record {
        returned = f ∙ ap (λ (l : List ℕ). get_or l 0 0) e ∙ sym (ap (λ (b : Bool). cond b 255 (get_or numbers 0 0)) (le-ltb (length reply) 4 room));
        replied = passed_on reply (g ∙ ap (λ (l : List ℕ). l ++ drop 4 reply) e);
      }

-- a call that asks the planner where there is room, and puts there what it answered
pub replies : {Asked : Numbers → Type 0} {reply after : List ℕ} {r : ℕ} (numbers : List ℕ) → (length reply < 4 → (r ≡ 255) × (after ≡ reply))
    → (4 ≤ length reply → (l : Numbers) × Asked l × (r ≡ get_or (listed l) 0 0) × (after ≡ listed l ++ drop 4 reply))
    → ((l : Numbers) → Asked l → listed l ≡ numbers) → Replies numbers reply r after
replies {Asked} {reply} {after} {r} numbers short told_by means = ⊎_elim
    (λ h. let s = short h in subst (λ (a : List ℕ). Replies numbers reply r a) (sym s.1) (subst (λ (k : ℕ). Replies numbers reply k reply) (sym s.0) (silent reply h)))
    (λ h. let t = told_by h in told reply h (means t.0 t.1) t.2 t.3)
    (lt_or_le (length reply) 4)

-- a lent buffer that such a call may write
pub passes_on : (reply : List ℕ) {new old now : List ℕ} → (length reply < 4 → now ≡ old) → (4 ≤ length reply → now ≡ new) → now ≡ if_room reply new old
passes_on reply {new} {old} short told_by = ⊎_elim
    (λ h. short h ∙ left_alone reply h new old)
    (λ h. passed_on reply h old (told_by h))
    (lt_or_le (length reply) 4)

-- the numbers of what the planner answered: `shown` lays out the code's answer, `numbers_of` the same answer in the paper's words
pub tells : {A R : Type 0} (numbers_of : A → List ℕ) (answer_of : R → A) (shown : R → List ℕ) (same : (r : R) → shown r ≡ numbers_of (answer_of r))
    → {said : A} (r : R) (l m : Numbers) → answer_of r ≡ said → l ≡ m → listed m ≡ shown r → listed l ≡ numbers_of said
tells numbers_of answer_of shown same r l m p q e = ap listed q ∙ e ∙ same r ∙ ap numbers_of p

pub of_night : (k : ℕ) (r : Result ℕ Refusal) → number_or_refused k r ≡ night_numbers k (night_answer r)
unfolding night_numbers night_answer
of_night k (Ok n) = refl
of_night k (Err f) = refl

pub of_colouring : (r : Result ℕ Refusal) → number_or_refused 8 r ≡ colour_numbers (colour_answer r)
unfolding colour_numbers colour_answer
of_colouring (Ok n) = refl
of_colouring (Err f) = refl
