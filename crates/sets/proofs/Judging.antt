-- Rules of refusal, proved once over any list of them: what comes back is what `Judged` says, and nothing else (`judged_exactly`); nothing comes back exactly
-- where no rule applies (`all_clear`, `clear_all`); a number of the list comes back exactly where its rule applies and none before it does (`given_exactly`).
-- Each rule applies or is clear, by the finder's laws; the lists go by induction. Assumes nothing.
use mathlib.Core.Path.{◌≡◌, refl, sym, ◌∙◌, ap, subst}
use mathlib.Core.Bool.{Bool, true, false}
use mathlib.Core.Logic.{◌⊎◌, inl, inr, ⊎_elim, ◌↔◌}
use mathlib.Core.List.{List, [], ◌∷◌, ◌++◌, map}
use Prim.Native.Nat.{ℕ, ◌<◌}
use native.Mathlib.Omega.{arith}
use lib.ListN.{length}
use Rattle.graphs.specs.Jobs.{up_to, has, ◌∈◌}
use Rattle.graphs.proofs.Bools.{never, lt_or_le}
use Rattle.graphs.proofs.Lists.{in_head, in_tail, not_in_head, not_in_tail}
use Rattle.sets.specs.Places.{first_in, FirstAt, FoundAt}
use Rattle.sets.specs.Rules.{Rule, when, along, across, given, numbered, gives, or_else, first_given, Applies, Clear, Judged, AllClear, number_of}
use Rattle.sets.proofs.Finder.{first_at, first_here, first_none, place_none, place_cases, found_place}

-- ---- one rule

found_at : {t : ℕ → Bool} {n i : ℕ} → FoundAt t n i → first_in t (up_to n) ≡ i ∷ []
found_at f = first_here (record { within = let h = f.within in omega arith; before = f.earlier; holds = λ h. f.holds }) f.within

none_along : (t : ℕ → Bool) (n : ℕ) → ((k : ℕ) → k < n → t k ≡ false) → first_in t (up_to n) ≡ []
none_along t n none = first_none {c = n} (record { within = omega arith; before = none; holds = λ h. absurd (omega arith) }) (omega arith)

-- what it gives where it applies, and where it is clear
pub applies_gives : (rule : Rule) {back : List ℕ} → Applies rule back → gives rule ≡ back
unfolding Applies gives
applies_gives (when number test) a = ap (λ (b : Bool). given b number) a.0 ∙ sym a.1
applies_gives (along number test count) a = ap (numbered number) (found_at a.1) ∙ sym a.2
applies_gives (across number test rows columns) a = ap (numbered number) (found_place a.2) ∙ sym a.3

pub clear_gives : (rule : Rule) → Clear rule → gives rule ≡ []
unfolding Clear gives
clear_gives (when number test) c = ap (λ (b : Bool). given b number) c
clear_gives (along number test count) c = ap (numbered number) (none_along test count c)
clear_gives (across number test rows columns) c = ap (numbered number) (place_none test rows columns c)

-- something comes back where it applies
pub record Back (back : List ℕ) : Type 0 where
  pub number : ℕ
  pub values : List ℕ
  pub is : back ≡ number ∷ values

pub applies_back : (rule : Rule) {back : List ℕ} → Applies rule back → Back back
unfolding Applies
applies_back (when number test) a = record { number = number; values = []; is = a.1 }
applies_back (along number test count) a = record { number = number; values = a.0 ∷ []; is = a.2 }
applies_back (across number test rows columns) a = record { number = number; values = a.0 ∷ a.1 ∷ []; is = a.3 }

-- it applies, or it is clear
pub rule_cases : (rule : Rule) → Applies rule (gives rule) ⊎ Clear rule
unfolding Applies Clear gives
rule_cases (when number test) = by test
  where
    by : (b : Bool) → ((b ≡ true) × (given b number ≡ number ∷ [])) ⊎ (b ≡ false)
    by true = inl (refl, refl)
    by false = inr refl
rule_cases (along number test count) = by (first_at test count)
  where
    by : (i : ℕ) × FirstAt test count i → ((i : ℕ) × FoundAt test count i × (numbered number (first_in test (up_to count)) ≡ number ∷ i ∷ [])) ⊎ ((k : ℕ) → k < count → test k ≡ false)
    by f = ⊎_elim
        (λ h. let found : FoundAt test count f.0 = record { within = h; holds = f.1.holds h; earlier = f.1.before } in inl (f.0, found, ap (numbered number) (found_at found)))
        (λ h. inr (λ k l. f.1.before k (omega arith)))
        (lt_or_le f.0 count)
rule_cases (across number test rows columns) = ⊎_elim
    (λ f. inl (f.0, f.1, f.2, ap (numbered number) (found_place f.2)))
    (λ none. inr none)
    (place_cases test rows columns)

-- ---- a list of rules

module _ (rule : Rule) (later : List Rule) where
  pub first_applies : {back : List ℕ} → Applies rule back → first_given (rule ∷ later) ≡ back
  unfolding first_given
  first_applies {back} a =
      let b = applies_back rule a in
      ap (λ (l : List ℕ). or_else l (first_given later)) (applies_gives rule a ∙ b.is) ∙ sym b.is

  pub first_clear : Clear rule → first_given (rule ∷ later) ≡ first_given later
  unfolding first_given
  first_clear c = ap (λ (l : List ℕ). or_else l (first_given later)) (clear_gives rule c)

-- two lists under one rule give the same, if they do where it is clear
pub first_same : (rule : Rule) (l m : List Rule) → (Clear rule → first_given l ≡ first_given m) → first_given (rule ∷ l) ≡ first_given (rule ∷ m)
first_same rule l m e = ⊎_elim
    (λ a. first_applies rule l a ∙ sym (first_applies rule m a))
    (λ c. first_clear rule l c ∙ e c ∙ sym (first_clear rule m c))
    (rule_cases rule)

pub nothing_given : first_given [] ≡ []
unfolding first_given
nothing_given = refl

pub judged_gives : (rules : List Rule) {back : List ℕ} → Judged rules back → first_given rules ≡ back
unfolding Judged first_given
judged_gives [] j = sym j
judged_gives (rule ∷ later) (inl a) = first_applies rule later a
judged_gives (rule ∷ later) (inr c) = first_clear rule later c.0 ∙ judged_gives later c.1

pub gives_judged : (rules : List Rule) → Judged rules (first_given rules)
unfolding Judged
gives_judged [] = nothing_given
gives_judged (rule ∷ later) = by (rule_cases rule) (gives_judged later)
  where
    by : Applies rule (gives rule) ⊎ Clear rule → Judged later (first_given later) → Applies rule (first_given (rule ∷ later)) ⊎ (Clear rule × Judged later (first_given (rule ∷ later)))
    by (inl a) j = inl (subst (λ (l : List ℕ). Applies rule l) (sym (first_applies rule later a)) a)
    by (inr c) j = inr (c, subst (λ (l : List ℕ). Judged later l) (sym (first_clear rule later c)) j)

-- "Given exactly when"
pub judged_exactly : (rules : List Rule) (back : List ℕ) → (first_given rules ≡ back) ↔ Judged rules back
judged_exactly rules back = (λ e. subst (λ (l : List ℕ). Judged rules l) e (gives_judged rules), judged_gives rules)

-- nothing comes back exactly where no rule applies
pub clear_all : (rules : List Rule) → AllClear rules → first_given rules ≡ []
unfolding AllClear
clear_all [] c = nothing_given
clear_all (rule ∷ later) c = first_clear rule later c.0 ∙ clear_all later c.1

pub all_clear : (rules : List Rule) → first_given rules ≡ [] → AllClear rules
unfolding AllClear
all_clear [] e = tt
all_clear (rule ∷ later) e = by (rule_cases rule) (all_clear later)
  where
    by : Applies rule (gives rule) ⊎ Clear rule → (first_given later ≡ [] → AllClear later) → Clear rule × AllClear later
    by (inl a) again = absurd (let b = applies_back rule a in let z = ap length (sym b.is ∙ sym (first_applies rule later a) ∙ e) in omega arith)
    by (inr c) again = (c, again (sym (first_clear rule later c) ∙ e))

-- of one rule what it gives
pub one_given : (rule : Rule) → gives rule ≡ first_given (rule ∷ [])
unfolding first_given
one_given rule = alone (gives rule)
  where
    alone : (l : List ℕ) → l ≡ or_else l []
    alone [] = refl
    alone (number ∷ values) = refl

-- of two rules the first that gives something
pub two_given : (a b : Rule) → or_else (gives a) (gives b) ≡ first_given (a ∷ b ∷ [])
unfolding first_given
two_given a b = ap (or_else (gives a)) (one_given b)

-- ---- one list behind another

pub clear_before : (rules more : List Rule) → AllClear rules → first_given (rules ++ more) ≡ first_given more
unfolding AllClear
clear_before [] more c = refl
clear_before (rule ∷ rules) more c = first_clear rule (rules ++ more) c.0 ∙ clear_before rules more c.1

pub given_before : (rules more : List Rule) {number : ℕ} {values : List ℕ} → first_given rules ≡ number ∷ values → first_given (rules ++ more) ≡ number ∷ values
given_before [] more e = absurd (let z = ap length (sym nothing_given ∙ e) in omega arith)
given_before (rule ∷ rules) more {number} {values} e = by (rule_cases rule) (λ f. given_before rules more f)
  where
    by : Applies rule (gives rule) ⊎ Clear rule → (first_given rules ≡ number ∷ values → first_given (rules ++ more) ≡ number ∷ values) → first_given (rule ∷ (rules ++ more)) ≡ number ∷ values
    by (inl a) again = first_applies rule (rules ++ more) a ∙ sym (first_applies rule rules a) ∙ e
    by (inr c) again = first_clear rule (rules ++ more) c ∙ again (sym (first_clear rule rules c) ∙ e)

pub clear_split : (rules more : List Rule) → AllClear (rules ++ more) → AllClear rules × AllClear more
unfolding AllClear
clear_split [] more c = (tt, c)
clear_split (rule ∷ rules) more c = let r = clear_split rules more c.1 in ((c.0, r.0), r.1)

pub clear_join : (rules more : List Rule) → AllClear rules → AllClear more → AllClear (rules ++ more)
unfolding AllClear
clear_join [] more c d = d
clear_join (rule ∷ rules) more c d = (c.0, clear_join rules more c.1 d)

-- ---- one number of a list in which it stands once

applies_number : (rule : Rule) (number : ℕ) (values : List ℕ) → Applies rule (number ∷ values) → number ≡ number_of rule
unfolding Applies number_of
applies_number (when number test) k values a = cc a.1
applies_number (along number test count) k values a = cc a.2
applies_number (across number test rows columns) k values a = cc a.3

module _ (number : ℕ) (values : List ℕ) where
  judged_number : (rules : List Rule) → Judged rules (number ∷ values) → number ∈ map number_of rules
  unfolding Judged
  judged_number [] j = absurd (let z = ap length j in omega arith)
  judged_number (rule ∷ later) (inl a) = subst (λ (k : ℕ). k ∈ (number_of rule ∷ map number_of later)) (sym (applies_number rule number values a)) (in_head (number_of rule) (map number_of later))
  judged_number (rule ∷ later) (inr c) = in_tail (number_of rule) number (map number_of later) (judged_number later c.1)

  given_only : (rule : Rule) (after before : List Rule) → has (map number_of before) number ≡ false → has (map number_of after) number ≡ false
      → Judged (before ++ rule ∷ after) (number ∷ values) → AllClear before × Applies rule (number ∷ values)
  unfolding Judged AllClear
  given_only rule after [] b a (inl now) = (tt, now)
  given_only rule after [] b a (inr c) = never (has (map number_of after) number) (judged_number after c.1) a
  given_only rule after (earlier ∷ before) b a (inl now) = absurd (not_in_head (number_of earlier) number (map number_of before) b (sym (applies_number earlier number values now)))
  given_only rule after (earlier ∷ before) b a (inr c) =
      let r = given_only rule after before (not_in_tail (number_of earlier) number (map number_of before) b) a c.1 in
      ((c.0, r.0), r.1)

pub given_there : (rule : Rule) (after : List Rule) (back : List ℕ) (before : List Rule) → AllClear before → Applies rule back → Judged (before ++ rule ∷ after) back
unfolding Judged AllClear
given_there rule after back [] c a = inl a
given_there rule after back (earlier ∷ before) c a = inr (c.0, given_there rule after back before c.1 a)

-- "Each refusal is given only if no earlier check in its list applies", and then it is
pub given_exactly : (before : List Rule) (rule : Rule) (after : List Rule) (number : ℕ) (values : List ℕ) → has (map number_of before) number ≡ false → has (map number_of after) number ≡ false
    → (first_given (before ++ rule ∷ after) ≡ number ∷ values) ↔ (AllClear before × Applies rule (number ∷ values))
given_exactly before rule after number values b a = (
  λ e. given_only number values rule after before b a ((judged_exactly (before ++ rule ∷ after) (number ∷ values)).0 e),
  λ h. judged_gives (before ++ rule ∷ after) (given_there rule after (number ∷ values) before h.0 h.1),
)
