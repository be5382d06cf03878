-- Laws of named runs: a signal may show them, and they fill the horizon; and what one run more makes of a word that is filled with them.
use Rattle.std.proofs.Common.{◌≡◌, inl, inr, ℕ, zero, suc, ◌+◌, ◌-◌, ◌<◌, ◌≤◌, List, ◌++◌, length, sym, ap, ◌∙◌, arith}
use Rattle.std.specs.Prelude.{◌^◌, Bool, false, true, take, drop}
use Rattle.std.specs.Int.{bit_at, w8}
use Rattle.std.proofs.Math.Pow.{pow-lt, pow_mono}
use Rattle.std.proofs.lemmas.Bool.{cases_lt}
use Rattle.std.proofs.lemmas.List.{append-nil, append_assoc, length-append, length-take-le, take-append-drop, take_all}
use Rattle.std.proofs.lemmas.Nat.{pow_pos}
use Rattle.std.proofs.lemmas.Nat.Bits.{bit_at-trailing_zeros, bit_at_above}
use Rattle.ct_base.specs.Access.{phase_of}
use Rattle.ct_base.specs.Validity.{IsBetween, IsPhase, IsSignal}
use Rattle.ct_base.specs.declared.plan.Letter.{Letter}
use Rattle.ct_base.specs.declared.signal.Phase.{Phase}
use Rattle.ct_base.specs.declared.signal.Signal.{Signal}
use Rattle.traffic_model.specs.Runs.{AreRuns, IsAdmissible, letters_of_run, letters_of_runs}
use Rattle.phase_rules.proofs.JudgeLaws.{take_again}
use Rattle.phase_rules.proofs.WordLaws.{length_is}
use Rattle.plan_rounding.specs.Named.{green_in, lowest_of, named_run, named_runs, named_word}

-- ---- the lowest-numbered phase

-- it is a phase of the set, and one of the first k where all of the set are
pub lowest_is : (phases k : ℕ) → 0 < phases → phases < 2 ^ 8 → phases < 2 ^ k → (bit_at phases (lowest_of phases) ≡ 1) × (lowest_of phases < k)
lowest_is phases k some byte within =
    let all = bit_at-trailing_zeros w8 phases some byte in
    let one : bit_at phases (lowest_of phases) ≡ 1 = all.1 in (
      one,
      elim (cases_lt (lowest_of phases) k) [
        | inl inside ↦ inside
        | inr outside ↦ let none : bit_at phases (lowest_of phases) ≡ 0 = bit_at_above phases k (lowest_of phases) within outside in absurd (omega arith)
      ],
    )

-- a set of phases of a signal is a byte
byte_is : (signal : Signal) (phases : ℕ) → IsSignal signal → phases < 2 ^ length signal.phases → phases < 2 ^ 8
byte_is signal phases valid within = let most : 2 ^ length signal.phases ≤ 2 ^ 8 = pow_mono valid.phases.1 in omega (arith, within, most)

-- the starting phase alone is such a set
pub start_within : (signal : Signal) → IsSignal signal → 2 ^ signal.start < 2 ^ length signal.phases
start_within signal valid = pow-lt valid.start

-- ---- named runs

-- their greens keep the limits
green_between : (long : Bool) (phase : Phase) → phase.min ≤ phase.max → IsBetween phase.min phase.max (green_in long phase)
green_between false phase limits = (omega arith, limits)
green_between true phase limits = (limits, omega arith)

-- they follow one another
are_runs : (signal : Signal) (long : Bool) (allowed n : ℕ) → IsSignal signal → 0 < allowed → allowed < 2 ^ length signal.phases → AreRuns signal allowed (named_runs signal long allowed n)
are_runs signal long allowed zero valid some within = tt
are_runs signal long allowed (suc n) valid some within =
    let p : ℕ = lowest_of allowed in
    let lowest = lowest_is allowed (length signal.phases) some (byte_is signal allowed valid within) within in
    let phase : IsPhase (length signal.phases) p (phase_of signal p) = valid.each p lowest.1 in (
      record { phase = lowest.1; may_stand = lowest.0; green = green_between long (phase_of signal p) phase.max.0 },
      are_runs signal long (phase_of signal p).next n valid phase.followed phase.followed_by_phases,
    )

-- each has a letter at least
long_enough : (signal : Signal) (long : Bool) (allowed n : ℕ) → IsSignal signal → 0 < allowed → allowed < 2 ^ length signal.phases → n ≤ length (letters_of_runs signal (named_runs signal long allowed n))
long_enough signal long allowed zero valid some within = omega arith
long_enough signal long allowed (suc n) valid some within =
    let p : ℕ = lowest_of allowed in
    let lowest = lowest_is allowed (length signal.phases) some (byte_is signal allowed valid within) within in
    let phase : IsPhase (length signal.phases) p (phase_of signal p) = valid.each p lowest.1 in
    let green : IsBetween (phase_of signal p).min (phase_of signal p).max (green_in long (phase_of signal p)) = green_between long (phase_of signal p) phase.max.0 in
    let more : List Letter = letters_of_runs signal (named_runs signal long (phase_of signal p).next n) in
    let after : n ≤ length more = long_enough signal long (phase_of signal p).next n valid phase.followed phase.followed_by_phases in
    let all : length (letters_of_run signal (named_run signal long allowed) ++ more) ≡ length (letters_of_run signal (named_run signal long allowed)) + length more = length-append (letters_of_run signal (named_run signal long allowed)) more in
    let first : length (letters_of_run signal (named_run signal long allowed)) ≡ green_in long (phase_of signal p) + (phase_of signal p).clear = length_is signal (named_run signal long allowed) in
    omega (arith, phase.min.0, green.0, after, all, first)

-- ---- named words

-- a signal may show its named word
pub named_word_is_admissible : (signal : Signal) (long : Bool) (steps : ℕ) → IsSignal signal → IsAdmissible signal (named_word signal long steps)
unfolding named_word
named_word_is_admissible signal long steps valid =
    let letters : List Letter = letters_of_runs signal (named_runs signal long (2 ^ signal.start) steps) in
    record {
      runs = named_runs signal long (2 ^ signal.start) steps;
      rest = drop steps letters;
      are_runs = are_runs signal long (2 ^ signal.start) steps valid (pow_pos signal.start) (start_within signal valid);
      begins = sym (take-append-drop steps letters);
    }

-- which has a letter for each step
pub named_word_is_long : (signal : Signal) (long : Bool) (steps : ℕ) → IsSignal signal → length (named_word signal long steps) ≡ steps
unfolding named_word
named_word_is_long signal long steps valid =
    length-take-le steps (letters_of_runs signal (named_runs signal long (2 ^ signal.start) steps))
    (long_enough signal long (2 ^ signal.start) steps valid (pow_pos signal.start) (start_within signal valid))

-- ---- a word that is filled

-- a word that is filled with named runs has a letter for each step
pub filled_is_long : (signal : Signal) (long : Bool) (first steps : ℕ) (word filled : List Letter) → IsSignal signal → 0 < first → first < 2 ^ length signal.phases →
    filled ≡ take steps (word ++ letters_of_runs signal (named_runs signal long first steps)) → length filled ≡ steps
filled_is_long signal long first steps word filled valid some within is =
    let more : List Letter = letters_of_runs signal (named_runs signal long first steps) in
    let enough : steps ≤ length more = long_enough signal long first steps valid some within in
    ap length is ∙ length-take-le steps (word ++ more) (omega (arith, enough, length-append word more))

-- once no run is left, nothing is added
pub none_left : (signal : Signal) (long : Bool) (allowed left steps : ℕ) (word : List Letter) → left ≡ 0 → length word ≤ steps →
    word ≡ take steps (word ++ letters_of_runs signal (named_runs signal long allowed left))
none_left signal long allowed left steps word none within =
    sym (ap (λ (n : ℕ). take steps (word ++ letters_of_runs signal (named_runs signal long allowed n))) none
    ∙ ap (take steps) (append-nil word) ∙ take_all steps word within)

-- a run more, and one fewer to add
pub one_run_more : (signal : Signal) (long : Bool) (allowed next counter steps : ℕ) (word new : List Letter) → counter < steps →
    new ≡ take steps (word ++ letters_of_run signal (named_run signal long allowed)) → next ≡ (phase_of signal (lowest_of allowed)).next →
    take steps (new ++ letters_of_runs signal (named_runs signal long next (steps - (counter + 1)))) ≡ take steps (word ++ letters_of_runs signal (named_runs signal long allowed (steps - counter)))
one_run_more signal long allowed next counter steps word new before is follows =
    let run : List Letter = letters_of_run signal (named_run signal long allowed) in
    let more : List Letter = letters_of_runs signal (named_runs signal long (phase_of signal (lowest_of allowed)).next (steps - (counter + 1))) in
    let count : steps - counter ≡ suc (steps - (counter + 1)) = omega arith in
    ap (λ (n : ℕ). take steps (new ++ letters_of_runs signal (named_runs signal long n (steps - (counter + 1))))) follows
    ∙ ap (λ (w : List Letter). take steps (w ++ more)) is
    ∙ take_again steps (word ++ run) more
    ∙ ap (take steps) (append_assoc word run more)
    ∙ ap (λ (n : ℕ). take steps (word ++ letters_of_runs signal (named_runs signal long allowed n))) (sym count)
