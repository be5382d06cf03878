-- A word whose letters keep the rules passes the scan. Each state of the scan means a letter that stands, and since when.
use Rattle.std.proofs.Common.{◌≡◌, ◌≢◌, inl, inr, ℕ, suc, ◌+◌, ◌-◌, ◌<◌, ◌≤◌, ◌^◌, Bool, true, false, List, [], ◌∷◌, length, Option, Some, refl, ap, ◌∙◌, sym, arith}
use Rattle.std.specs.Prelude.{◌==◌, ◌||◌}
use Rattle.std.specs.Int.{bit_at}
use Rattle.std.proofs.lemmas.Bool.{and_parts, cases_eq, cases_lt, eq-eqb, eqb-true, le-leb, le-ltb, lt-ltb, ne_eqb}
use Rattle.std.proofs.lemmas.Nat.Bits.{bit_at-pow_same}
use Rattle.ct_base.specs.Access.{phase_of}
use Rattle.ct_base.specs.Validity.{IsSignal}
use Rattle.ct_base.specs.declared.plan.Letter.{Letter}
use Rattle.ct_base.specs.declared.plan.Letter.TheVariants as letters
use Rattle.ct_base.specs.declared.signal.Signal.{Signal}
use Rattle.traffic_model.specs.Runs.{IsAdmissible}
use Rattle.phase_rules.specs.declared.scan.Scan.{Scan}
use Rattle.phase_rules.specs.declared.scan.Scan.TheVariants.{Start, Green, Clear}
use Rattle.phase_rules.specs.inner.Scan.{after_letter, passes}
use Rattle.phase_rules.proofs.ScanLaws.{passes_iff_admissible}
use Rattle.program_model.specs.Existence.{IsLetterOf}
use Rattle.program_model.specs.RuleRows.{may_follow}
use Rattle.program_model.proofs.Segments.{Begins, least_steps, letter_in, most_steps}
use Rattle.program_model.proofs.WordSegments.{KeepsRules}

-- ---- a letter that stands

-- when step t begins the letter has stood for k steps, and not before them
pub record Stood (shown : ℕ → Letter) (t k : ℕ) (letter : Letter) : Type 0 where
  pub since : ℕ
  pub until : since + k ≡ t
  pub some : 1 ≤ k
  pub stands : (j : ℕ) → j < k → shown (since + j) ≡ letter
  pub fresh : Begins shown since

-- it stands on
stands_on : (shown : ℕ → Letter) (t k : ℕ) (letter : Letter) → Stood shown t k letter → shown t ≡ letter → Stood shown (t + 1) (k + 1) letter
stands_on shown t k letter stood here =
    record {
      since = stood.since;
      until = omega (arith, stood.until);
      some = omega arith;
      stands = λ j inside. elim (cases_eq j k) [
        | inl last ↦ let now : stood.since + j ≡ t = omega (arith, last, stood.until) in ap shown now ∙ here
        | inr earlier ↦ stood.stands j (omega (arith, inside, earlier))
      ];
      fresh = stood.fresh;
    }

-- it begins
stands_now : (shown : ℕ → Letter) (t : ℕ) (letter : Letter) → shown t ≡ letter → Begins shown t → Stood shown (t + 1) 1 letter
stands_now shown t letter here begins =
    record {
      since = t;
      until = refl;
      some = omega arith;
      stands = λ j inside. let now : t + j ≡ t = omega (arith, inside) in ap shown now ∙ here;
      fresh = begins;
    }

-- it was shown in the step before
shown_before : (shown : ℕ → Letter) (t k s : ℕ) (letter : Letter) → Stood shown t k letter → suc s ≡ t → shown s ≡ letter
shown_before shown t k s letter stood before =
    let place : stood.since + (k - 1) ≡ s = omega (arith, before, stood.until, stood.some) in
    ap shown (sym place) ∙ stood.stands (k - 1) (omega (arith, stood.some))

-- it was shown in its first step
shown_first : (shown : ℕ → Letter) (t k : ℕ) (letter : Letter) → (stood : Stood shown t k letter) → shown stood.since ≡ letter
shown_first shown t k letter stood = let place : stood.since + 0 ≡ stood.since = omega arith in ap shown (sym place) ∙ stood.stands 0 (omega (arith, stood.some))

-- another letter behind it begins
other_begins : (shown : ℕ → Letter) (t k : ℕ) (letter : Letter) → Stood shown t k letter → shown t ≢ letter → Begins shown t
other_begins shown t k letter stood other s before = λ same. other (sym same ∙ shown_before shown t k s letter stood before)

-- where another letter is shown behind it, it has stood for its least steps
stood_enough : (signal : Signal) (n : ℕ) (shown : ℕ → Letter) (t k : ℕ) (letter : Letter) → KeepsRules signal n shown → t < n → Stood shown t k letter → shown t ≢ letter →
    least_steps signal letter ≤ k
stood_enough signal n shown t k letter keeps inside stood other =
    elim (cases_lt k (least_steps signal letter)) [
      | inr enough ↦ enough
      | inl short ↦
          let first : shown stood.since ≡ letter = shown_first shown t k letter stood in
          let few : k < least_steps signal (shown stood.since) = rw first short in
          let still : shown (stood.since + k) ≡ shown stood.since = keeps.stay stood.since k (omega (arith, stood.until, inside)) stood.fresh few in
          absurd (other (ap shown (sym stood.until) ∙ still ∙ first))
    ]

-- where it is shown once more, it has not stood for its most steps yet
stood_in_time : (signal : Signal) (n : ℕ) (shown : ℕ → Letter) (t k : ℕ) (letter : Letter) → KeepsRules signal n shown → t < n → Stood shown t k letter → shown t ≡ letter →
    k < most_steps signal letter
stood_in_time signal n shown t k letter keeps inside stood again =
    elim (cases_lt k (most_steps signal letter)) [
      | inl below ↦ below
      | inr long ↦
          let first : shown stood.since ≡ letter = shown_first shown t k letter stood in
          let early : stood.since + most_steps signal (shown stood.since) < n = rw first (omega (arith, long, stood.until, inside)) in
          let later : (j : ℕ) × (j ≤ most_steps signal (shown stood.since)) × (shown (stood.since + j) ≢ shown stood.since) = keeps.ends stood.since early in
          let few : later.0 ≤ most_steps signal letter = rw first at later.1 in
          elim (cases_eq later.0 k) [
            | inl last ↦ let now : stood.since + later.0 ≡ t = omega (arith, last, stood.until) in absurd (later.2 (ap shown now ∙ again ∙ sym first))
            | inr earlier ↦ absurd (later.2 (stood.stands later.0 (omega (arith, few, long, earlier)) ∙ sym first))
          ]
    ]

-- the letter behind it may follow it
comes_next : (signal : Signal) (n : ℕ) (shown : ℕ → Letter) (t k : ℕ) (letter : Letter) → KeepsRules signal n shown → t < n → Stood shown t k letter → may_follow signal letter (shown t) ≡ true
comes_next signal n shown t k letter keeps inside stood =
    let next : t - 1 + 1 ≡ t = omega (arith, stood.until, stood.some) in
    let before : suc (t - 1) ≡ t = omega (arith, stood.until, stood.some) in
    let may : may_follow signal (shown (t - 1)) (shown (t - 1 + 1)) ≡ true = keeps.follow (t - 1) (omega (arith, next, inside)) in
    ap (λ (l : Letter). may_follow signal l (shown t)) (sym (shown_before shown t k (t - 1) letter stood before)) ∙ ap (λ (s : ℕ). may_follow signal (shown (t - 1)) (shown s)) (sym next) ∙ may

-- ---- states of the scan

-- what a state says of the letters before step t
abbrev pub Means : (ℕ → Letter) → ℕ → Scan → Type 0
Means shown t Start = t ≡ 0
Means shown t (Green p k) = Stood shown t k (letters.Green p)
Means shown t (Clear p k) = Stood shown t k (letters.Clear p)

-- a letter leads to a state that means it too
record Leads (shown : ℕ → Letter) (t : ℕ) (reached : Option Scan) : Type 0 where
  next : Scan
  is : reached ≡ Some next
  means : Means shown (t + 1) next

-- the first letter
from_start : (signal : Signal) (shown : ℕ → Letter) (t : ℕ) → t ≡ 0 → shown 0 ≡ letters.Green signal.start → Leads shown t (after_letter signal Start (shown t))
from_start signal shown t none first =
    let here : shown t ≡ letters.Green signal.start = ap shown none ∙ first in
    record {
      next = Green signal.start 1;
      is = rw (here, eq-eqb (bit_at (2 ^ signal.start) signal.start) 1 (bit_at-pow_same signal.start)) refl;
      means = stands_now shown t (letters.Green signal.start) here (λ s before. absurd (omega (arith, before, none)));
    }

-- letters of two phases, and a green and a clearing letter, differ
abbrev phase_in : Letter → ℕ
phase_in (letters.Green p) = p
phase_in (letters.Clear p) = p

-- of two tests the first fails
second_of : (a b : Bool) → a ≡ false → (a || b) ≡ true → b ≡ true
second_of true b fails holds = absurd (cc)
second_of false b fails holds = holds

-- a letter behind a green
from_green : (signal : Signal) (n : ℕ) (shown : ℕ → Letter) (t p k : ℕ) (letter : Letter) → KeepsRules signal n shown → t < n → Stood shown t k (letters.Green p) → shown t ≡ letter →
    Leads shown t (after_letter signal (Green p k) letter)
from_green signal n shown t p k (letters.Green q) keeps inside stood here =
    let may : may_follow signal (letters.Green p) (letters.Green q) ≡ true = ap (may_follow signal (letters.Green p)) (sym here) ∙ comes_next signal n shown t k (letters.Green p) keeps inside stood in
    elim (cases_eq q p) [
      | inl same ↦
          let again : shown t ≡ letters.Green p = here ∙ ap letters.Green same in
          let below : k < (phase_of signal p).max = stood_in_time signal n shown t k (letters.Green p) keeps inside stood again in
          record {
            next = Green p (k + 1);
            is = rw (eq-eqb p q (sym same), lt-ltb k (phase_of signal p).max below) refl;
            means = stands_on shown t k (letters.Green p) stood again;
          }
      | inr apart ↦
          let other : shown t ≢ letters.Green p = λ again. apart (ap phase_in (sym here ∙ again)) in
          let enough : (phase_of signal p).min ≤ k = stood_enough signal n shown t k (letters.Green p) keeps inside stood other in
          let parts : ((phase_of signal p).clear == 0 ≡ true) × ((bit_at (phase_of signal p).next q == 1) ≡ true) = and_parts _ _ (second_of _ _ (ne_eqb q p apart) may) in
          let none : (phase_of signal p).clear ≤ 0 = omega (arith, eqb-true (phase_of signal p).clear 0 parts.0) in
          record {
            next = Green q 1;
            is = rw (ne_eqb p q (λ same. apart (sym same)), le-leb (phase_of signal p).min k enough, le-ltb 0 (phase_of signal p).clear none, parts.1) refl;
            means = stands_now shown t (letters.Green q) here (other_begins shown t k (letters.Green p) stood other);
          }
    ]
from_green signal n shown t p k (letters.Clear q) keeps inside stood here =
    let may : may_follow signal (letters.Green p) (letters.Clear q) ≡ true = ap (may_follow signal (letters.Green p)) (sym here) ∙ comes_next signal n shown t k (letters.Green p) keeps inside stood in
    let same : q ≡ p = eqb-true q p may in
    let other : shown t ≢ letters.Green p = λ again. let e : letters.Clear q ≡ letters.Green p = sym here ∙ again in absurd (cc) in
    let enough : (phase_of signal p).min ≤ k = stood_enough signal n shown t k (letters.Green p) keeps inside stood other in
    let of : IsLetterOf signal (letters.Clear q) = rw here at (keeps.of t inside) in
    let some : 0 < (phase_of signal p).clear = rw same at of.1 in
    record {
      next = Clear p 1;
      is = rw (le-leb (phase_of signal p).min k enough, lt-ltb 0 (phase_of signal p).clear some, eq-eqb p q (sym same)) refl;
      means = stands_now shown t (letters.Clear p) (here ∙ ap letters.Clear same) (other_begins shown t k (letters.Green p) stood other);
    }

-- a letter behind a clearing letter
from_clear : (signal : Signal) (n : ℕ) (shown : ℕ → Letter) (t p k : ℕ) (letter : Letter) → KeepsRules signal n shown → t < n → Stood shown t k (letters.Clear p) → shown t ≡ letter →
    Leads shown t (after_letter signal (Clear p k) letter)
from_clear signal n shown t p k (letters.Green q) keeps inside stood here =
    let may : may_follow signal (letters.Clear p) (letters.Green q) ≡ true = ap (may_follow signal (letters.Clear p)) (sym here) ∙ comes_next signal n shown t k (letters.Clear p) keeps inside stood in
    let other : shown t ≢ letters.Clear p = λ again. let e : letters.Green q ≡ letters.Clear p = sym here ∙ again in absurd (cc) in
    let enough : (phase_of signal p).clear ≤ k = stood_enough signal n shown t k (letters.Clear p) keeps inside stood other in
    record {
      next = Green q 1;
      is = rw (le-ltb k (phase_of signal p).clear enough, may) refl;
      means = stands_now shown t (letters.Green q) here (other_begins shown t k (letters.Clear p) stood other);
    }
from_clear signal n shown t p k (letters.Clear q) keeps inside stood here =
    let may : may_follow signal (letters.Clear p) (letters.Clear q) ≡ true = ap (may_follow signal (letters.Clear p)) (sym here) ∙ comes_next signal n shown t k (letters.Clear p) keeps inside stood in
    let same : q ≡ p = eqb-true q p may in
    let again : shown t ≡ letters.Clear p = here ∙ ap letters.Clear same in
    let below : k < (phase_of signal p).clear = stood_in_time signal n shown t k (letters.Clear p) keeps inside stood again in
    record {
      next = Clear p (k + 1);
      is = rw (lt-ltb k (phase_of signal p).clear below, eq-eqb p q (sym same)) refl;
      means = stands_on shown t k (letters.Clear p) stood again;
    }

-- the letter of a step leads on from the state before it
leads_on : (signal : Signal) (n : ℕ) (shown : ℕ → Letter) (t : ℕ) (scan : Scan) → KeepsRules signal n shown → shown 0 ≡ letters.Green signal.start → t < n → Means shown t scan →
    Leads shown t (after_letter signal scan (shown t))
leads_on signal n shown t Start keeps first inside means = from_start signal shown t means first
leads_on signal n shown t (Green p k) keeps first inside means = from_green signal n shown t p k (shown t) keeps inside means refl
leads_on signal n shown t (Clear p k) keeps first inside means = from_clear signal n shown t p k (shown t) keeps inside means refl

-- what is left of a word passes
passes_on : (signal : Signal) (n : ℕ) (shown : ℕ → Letter) (t : ℕ) (scan : Scan) (rest : List Letter) → KeepsRules signal n shown → shown 0 ≡ letters.Green signal.start →
    ((i : ℕ) → i < length rest → letter_in rest i ≡ shown (t + i)) → t + length rest ≤ n → Means shown t scan → passes signal scan rest ≡ true
passes_on signal n shown t scan [] keeps first are inside means = refl
passes_on signal n shown t scan (letter ∷ rest) keeps first are inside means =
    let now : t + 0 ≡ t = omega arith in
    let here : letter ≡ shown t = are 0 (omega arith) ∙ ap shown now in
    let leads : Leads shown t (after_letter signal scan (shown t)) = leads_on signal n shown t scan keeps first (omega (arith, inside)) means in
    rw (here, leads.is) (
    passes_on signal n shown (t + 1) leads.next rest keeps first
    (λ i within. let place : t + suc i ≡ t + 1 + i = omega arith in are (suc i) (omega (arith, within)) ∙ ap shown place)
    (omega (arith, inside))
    leads.means)

-- a word that begins with the green of the starting phase, and whose letters keep the rules, is admissible
pub keeps_admissible : (signal : Signal) (word : List Letter) → IsSignal signal → KeepsRules signal (length word) (letter_in word) → letter_in word 0 ≡ letters.Green signal.start → IsAdmissible signal word
keeps_admissible signal word valid keeps first =
    (passes_iff_admissible signal word valid).0
    (passes_on signal (length word) (letter_in word) 0 Start word keeps first (λ i inside. let place : i ≡ 0 + i = omega arith in ap (letter_in word) place) (omega arith) refl)
