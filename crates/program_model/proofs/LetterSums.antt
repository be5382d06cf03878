-- Sums over the letters of a signal: of all of them one is shown.
use Rattle.std.proofs.Common.{◌≡◌, ◌≢◌, inl, inr, ℕ, zero, suc, ◌<◌, Bool, true, false, List, [], ◌∷◌, length, filter, sum_by, refl, ap, ◌∙◌, sym, arith}
use Rattle.std.specs.Prelude.{if◌then◌else◌}
use Rattle.std.proofs.lemmas.Bool.{cases_Bool, eq-eqb, eqb-true}
use Rattle.std.proofs.lemmas.List.Sums.{sum_by-append, sum_by-cons}
use Rattle.listed.specs.Below.{join_below, sum_below}
use Rattle.listed.proofs.SumLaws.{sum_below-only}
use Rattle.ct_base.specs.Access.{phase_of}
use Rattle.ct_base.specs.declared.plan.Letter.{Letter}
use Rattle.ct_base.specs.declared.plan.Letter.TheVariants.{Green, Clear}
use Rattle.ct_base.specs.declared.signal.Signal.{Signal}
use Rattle.program_model.specs.Columns.{letters_by, letters_of}
use Rattle.program_model.specs.Existence.{IsLetterOf}
use Rattle.program_model.specs.Values.{is_letter, one_where}

-- the test of letters is their equality
pub is_letter-same : (l m : Letter) → is_letter l m ≡ true → l ≡ m
is_letter-same (Green p) (Green q) is = ap Green (eqb-true p q is)
is_letter-same (Clear p) (Clear q) is = ap Clear (eqb-true p q is)
is_letter-same (Green p) (Clear q) is = absurd (cc)
is_letter-same (Clear p) (Green q) is = absurd (cc)

pub is_letter-itself : (l : Letter) → is_letter l l ≡ true
is_letter-itself (Green p) = eq-eqb p p refl
is_letter-itself (Clear p) = eq-eqb p p refl

pub is_letter-apart : (l m : Letter) → l ≢ m → is_letter l m ≡ false
is_letter-apart l m apart =
    elim (cases_Bool (is_letter l m)) [ inl is ↦ absurd (apart (is_letter-same l m is)) | inr not ↦ not ]

-- the sum over the parts of a join
pub sum_by-join_below : {X : Type 0} (f : X → ℕ) (n : ℕ) (parts : ℕ → List X) → sum_by f (join_below n parts) ≡ sum_below n (λ k. sum_by f (parts k))
unfolding join_below sum_below
sum_by-join_below f zero parts = refl
sum_by-join_below f (suc n) parts = rw (sum_by-append f (join_below n parts) (parts n), sum_by-join_below f n parts)

-- what the letter that is shown counts, and nothing for all others
abbrev pub shown : (Letter → ℕ) → Letter → Letter → ℕ
shown count letter other = if is_letter other letter then count other else 0

-- of the letters of another phase none is shown
other_phase : (count : Letter → ℕ) (letter : Letter) (p clear : ℕ) → Green p ≢ letter → Clear p ≢ letter → sum_by (shown count letter) (letters_by p clear) ≡ 0
other_phase count letter p zero green clears = rw (is_letter-apart (Green p) letter green)
other_phase count letter p (suc clear) green clears = rw (is_letter-apart (Green p) letter green, is_letter-apart (Clear p) letter clears)

-- of those of its phase it alone
own_green : (count : Letter → ℕ) (p clear : ℕ) → sum_by (shown count (Green p)) (letters_by p clear) ≡ count (Green p)
own_green count p zero = rw (eq-eqb p p refl) (omega arith)
own_green count p (suc clear) = rw (eq-eqb p p refl) (omega arith)

own_clear : (count : Letter → ℕ) (p clear : ℕ) → 0 < clear → sum_by (shown count (Clear p)) (letters_by p clear) ≡ count (Clear p)
own_clear count p zero some = absurd (omega (arith, some))
own_clear count p (suc clear) some = rw (eq-eqb p p refl) (omega arith)

-- the phase of a letter
abbrev phase_in : Letter → ℕ
phase_in (Green p) = p
phase_in (Clear p) = p

-- over all letters of a signal one is shown
pub sum_of_shown : (signal : Signal) (count : Letter → ℕ) (letter : Letter) → IsLetterOf signal letter → sum_by (shown count letter) (letters_of signal) ≡ count letter
unfolding letters_of
sum_of_shown signal count (Green p) of =
    sum_by-join_below (shown count (Green p)) (length signal.phases) (λ q. letters_by q (phase_of signal q).clear)
    ∙ sum_below-only (length signal.phases) p (λ q. sum_by (shown count (Green p)) (letters_by q (phase_of signal q).clear)) of
    (λ q inside apart. other_phase count (Green p) q (phase_of signal q).clear (λ same. apart (ap phase_in same)) (λ same. absurd (cc)))
    ∙ own_green count p (phase_of signal p).clear
sum_of_shown signal count (Clear p) of =
    sum_by-join_below (shown count (Clear p)) (length signal.phases) (λ q. letters_by q (phase_of signal q).clear)
    ∙ sum_below-only (length signal.phases) p (λ q. sum_by (shown count (Clear p)) (letters_by q (phase_of signal q).clear)) of.0
    (λ q inside apart. other_phase count (Clear p) q (phase_of signal q).clear (λ same. absurd (cc)) (λ same. apart (ap phase_in same)))
    ∙ own_clear count p (phase_of signal p).clear of.1

-- equal summands have equal sums
sum_by-same : {X : Type 0} (f g : X → ℕ) → ((x : X) → f x ≡ g x) → (xs : List X) → sum_by f xs ≡ sum_by g xs
sum_by-same f g same [] = refl
sum_by-same f g same (x ∷ xs) = sum_by-cons f x xs ∙ (omega (arith, same x, sum_by-same f g same xs)) ∙ sym (sum_by-cons g x xs)

-- the sum over those that pass a test
sum_by-filter : {X : Type 0} (f : X → ℕ) (test : X → Bool) (xs : List X) → sum_by f (filter test xs) ≡ sum_by (λ x. if test x then f x else 0) xs
sum_by-filter {X} f test [] = refl
sum_by-filter {X} f test (x ∷ xs) =
    let g : X → ℕ = λ x. if test x then f x else 0 in
    elim (cases_Bool (test x)) [
      | inl passes ↦
          ap (λ b. sum_by f (if b then x ∷ filter test xs else filter test xs)) passes ∙ sum_by-cons f x (filter test xs)
          ∙ (let here : g x ≡ f x = rw passes in omega (arith, here, sum_by-filter f test xs)) ∙ sym (sum_by-cons g x xs)
      | inr fails ↦
          ap (λ b. sum_by f (if b then x ∷ filter test xs else filter test xs)) fails
          ∙ (let here : g x ≡ 0 = rw fails in omega (arith, here, sum_by-filter f test xs)) ∙ sym (sum_by-cons g x xs)
    ]

-- one of two tests and then the other
either_order : (a b : Bool) → (if a then one_where b else 0) ≡ (if b then one_where a else 0)
either_order true true = refl
either_order true false = refl
either_order false true = refl
either_order false false = refl

-- of all letters one is shown
pub one_is_shown : (signal : Signal) (letter : Letter) → IsLetterOf signal letter → sum_by (λ other. one_where (is_letter other letter)) (letters_of signal) ≡ 1
one_is_shown signal letter of = sum_of_shown signal (λ other. 1) letter of

-- of those that pass a test it is the one that is shown, where it passes
pub one_passes : (signal : Signal) (test : Letter → Bool) (letter : Letter) → IsLetterOf signal letter →
    sum_by (λ other. one_where (is_letter other letter)) (filter test (letters_of signal)) ≡ one_where (test letter)
one_passes signal test letter of =
    sum_by-filter (λ other. one_where (is_letter other letter)) test (letters_of signal)
    ∙ sum_by-same (λ other. if test other then one_where (is_letter other letter) else 0) (shown (λ other. one_where (test other)) letter)
    (λ other. either_order (test other) (is_letter other letter)) (letters_of signal)
    ∙ sum_of_shown signal (λ other. one_where (test other)) letter of
