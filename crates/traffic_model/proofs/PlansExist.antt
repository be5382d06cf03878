-- Every admissible word can go on to any length, and so can every admissible plan: a valid signal always has a phase that may follow.
-- So each valid network has admissible plans of each length.
use Rattle.std.proofs.Common.{◌≡◌, ℕ, zero, suc, ◌+◌, ◌*◌, ◌/◌, ◌%◌, ◌<◌, ◌≤◌, List, [], ◌∷◌, ◌++◌, length, slice_index_or, refl, sym, ap, inl, inr, ◌∙◌, arith, add-one}
use Rattle.std.specs.Prelude.{◌^◌, map, take, drop, replicate}
use Rattle.std.specs.Int.{bit_at}
use Rattle.std.proofs.lemmas.Bool.{cases_eq, cases_lt}
use Rattle.std.proofs.lemmas.Grind.{flat_map-append, pow_more}
use Rattle.std.proofs.lemmas.List.{append_assoc, ext_get_or, get_or-map, get_or_append_left, get_or_at, length-append, length-map, length-replicate, length-take-le, length_push, take-append-drop, take-take, take_at}
use Rattle.std.proofs.lemmas.Nat.Bits.{bit_at-pow_same, bit_at-suc, bit_at_above, bit_at_lowest}
use Rattle.ct_base.specs.Access.{phase_of, signal_of}
use Rattle.ct_base.specs.Validity.{IsPhase, IsSignal, IsValid}
use Rattle.ct_base.specs.declared.net.Net.{Net}
use Rattle.ct_base.specs.declared.plan.Letter.{Letter}
use Rattle.ct_base.specs.declared.plan.Letter.TheVariants.{Green, Clear}
use Rattle.ct_base.specs.declared.plan.Plan.{Plan}
use Rattle.ct_base.specs.declared.signal.Signal.{Signal}
use Rattle.traffic_model.specs.Runs.{AreRuns, GoesOnFrom, IsAdmissible, IsAdmissiblePlanOfLength, IsRun, Run, front_of_plan, letters_of_run, letters_of_runs, word_of}

-- ---- sets of phases

-- a set has a phase of the signal
record HasPhase (signal : Signal) (allowed : ℕ) : Type 0 where
  phase : ℕ
  within : phase < length signal.phases
  may_stand : bit_at allowed phase ≡ 1

-- a number above 0 has a bit
some_bit : (k n : ℕ) → n < 2 ^ k → 1 ≤ n → (p : ℕ) × (bit_at n p ≡ 1)
some_bit zero n small some = absurd (omega arith)
some_bit (suc k) n small some =
    let double : 2 ^ suc k ≡ 2 ^ k * 2 = rw add-one at (pow_more 2 k) in
    elim (cases_eq (n % 2) 1) [
      | inl odd ↦ (0, bit_at_lowest n ∙ odd)
      | inr even ↦
          let half : n / 2 < 2 ^ k = omega arith in
          let left : 1 ≤ n / 2 = omega arith in
          let one : (p : ℕ) × (bit_at (n / 2) p ≡ 1) = some_bit k (n / 2) half left in
          (suc one.0, bit_at-suc n one.0 ∙ one.1)
    ]

-- the starting phase
starts : (signal : Signal) → IsSignal signal → HasPhase signal (2 ^ signal.start)
starts signal valid = record { phase = signal.start; within = valid.start; may_stand = bit_at-pow_same signal.start }

-- some phase may follow each phase
followed : (signal : Signal) (p : ℕ) → IsSignal signal → p < length signal.phases → HasPhase signal (phase_of signal p).next
followed signal p valid within =
    let phase : IsPhase (length signal.phases) p (phase_of signal p) = valid.each p within in
    let one = some_bit (length signal.phases) (phase_of signal p).next phase.followed_by_phases phase.followed in
    let stands : bit_at (phase_of signal p).next one.0 ≡ 1 = one.1 in
    elim (cases_lt one.0 (length signal.phases)) [
      | inl inside ↦ record { phase = one.0; within = inside; may_stand = stands }
      | inr outside ↦
          let none : bit_at (phase_of signal p).next one.0 ≡ 0 = bit_at_above (phase_of signal p).next (length signal.phases) one.0 phase.followed_by_phases outside in
          absurd (omega arith)
    ]

-- ---- runs that go on

-- more runs, with which there are at least so many letters
record GoOn (signal : Signal) (allowed : ℕ) (runs : List Run) (t : ℕ) : Type 0 where
  more : List Run
  are_runs : AreRuns signal allowed (runs ++ more)
  long : t ≤ length (letters_of_runs signal (runs ++ more))

-- a run with the minimum green
shortest : (signal : Signal) (allowed : ℕ) → IsSignal signal → (has : HasPhase signal allowed) →
    IsRun signal allowed (record { phase = has.phase; green = (phase_of signal has.phase).min })
shortest signal allowed valid has =
    let phase : IsPhase (length signal.phases) has.phase (phase_of signal has.phase) = valid.each has.phase has.within in
    record { phase = has.within; may_stand = has.may_stand; green = (omega arith, phase.max.0) }

-- a run has a letter at least
long_run : (signal : Signal) (run : Run) → 1 ≤ run.green → 1 ≤ length (letters_of_run signal run)
long_run signal run some =
    let count : length (letters_of_run signal run) ≡ length (replicate run.green (Green run.phase)) + length (replicate (phase_of signal run.phase).clear (Clear run.phase)) =
    length-append (replicate run.green (Green run.phase)) (replicate (phase_of signal run.phase).clear (Clear run.phase)) in
    let green : length (replicate run.green (Green run.phase)) ≡ run.green = length-replicate run.green (Green run.phase) in
    omega arith

-- the letters of a first run and of the others
length-letters_of_runs : (signal : Signal) (run : Run) (runs : List Run) →
    length (letters_of_runs signal (run ∷ runs)) ≡ length (letters_of_run signal run) + length (letters_of_runs signal runs)
length-letters_of_runs signal run runs = length-append (letters_of_run signal run) (letters_of_runs signal runs)

-- a first run, and those that go on from it
begin : (signal : Signal) (t allowed : ℕ) → IsSignal signal → HasPhase signal allowed → GoOn signal allowed [] t
begin signal zero allowed valid has = record { more = []; are_runs = tt; long = omega arith }
begin signal (suc t) allowed valid has =
    let run : Run = record { phase = has.phase; green = (phase_of signal has.phase).min } in
    let phase : IsPhase (length signal.phases) has.phase (phase_of signal has.phase) = valid.each has.phase has.within in
    let after : GoOn signal (phase_of signal has.phase).next [] t = begin signal t (phase_of signal has.phase).next valid (followed signal has.phase valid has.within) in
    record {
      more = run ∷ after.more;
      are_runs = (shortest signal allowed valid has, after.are_runs);
      long = omega (arith, length-letters_of_runs signal run after.more, long_run signal run phase.min.0, after.long);
    }

-- runs behind some runs
go_on : (signal : Signal) (runs : List Run) (t allowed : ℕ) → IsSignal signal → HasPhase signal allowed → AreRuns signal allowed runs → GoOn signal allowed runs t
go_on signal [] t allowed valid has are = begin signal t allowed valid has
go_on signal (run ∷ runs) t allowed valid has are =
    let is : IsRun signal allowed run = are.0 in
    let after : GoOn signal (phase_of signal run.phase).next runs t = go_on signal runs t (phase_of signal run.phase).next valid (followed signal run.phase valid is.phase) are.1 in
    record {
      more = after.more;
      are_runs = (is, after.are_runs);
      long = omega (arith, length-letters_of_runs signal run (runs ++ after.more), after.long);
    }

-- ---- words that go on

-- an admissible word goes on to any greater length
pub word_goes_on : (signal : Signal) (front : List Letter) (n : ℕ) → IsSignal signal → IsAdmissible signal front → length front ≤ n →
    (word : List Letter) × GoesOnFrom signal front word n
word_goes_on signal front n valid admissible shorter =
    let after : GoOn signal (2 ^ signal.start) admissible.runs n = go_on signal admissible.runs n (2 ^ signal.start) valid (starts signal valid) admissible.are_runs in
    let letters : List Letter = letters_of_runs signal (admissible.runs ++ after.more) in
    let others : List Letter = letters_of_runs signal after.more in
    let spelled : letters ≡ front ++ (admissible.rest ++ others) =
    flat_map-append (letters_of_run signal) admissible.runs after.more
    ∙ ap (λ begun. begun ++ others) admissible.begins
    ∙ append_assoc front admissible.rest others in (
      take n letters,
      record {
        begins =
            take-take (length front) n letters shorter
            ∙ ap (take (length front)) spelled
            ∙ take_at front (admissible.rest ++ others) (length front) refl;
        long = length-take-le n letters after.long;
        admissible = record {
          runs = admissible.runs ++ after.more;
          rest = drop n letters;
          are_runs = after.are_runs;
          begins = sym (take-append-drop n letters);
        };
      },
    )

-- no letter is a front of each word
no_letter-admissible : (signal : Signal) → IsAdmissible signal []
no_letter-admissible signal = record { runs = []; rest = []; are_runs = tt; begins = refl }

-- a valid signal has an admissible word of each length
pub word_exists : (signal : Signal) (n : ℕ) → IsSignal signal → (word : List Letter) × (IsAdmissible signal word × (length word ≡ n))
word_exists signal n valid =
    let one = word_goes_on signal [] n valid (no_letter-admissible signal) (omega arith) in
    (one.0, (one.1.admissible, one.1.long))

-- ---- plans that go on

-- a list of what there is for each number below a count
record Chosen {X : Type 0} (P : ℕ → X → Type 0) (d : X) (n : ℕ) : Type 0 where
  items : List X
  long : length items ≡ n
  each : (i : ℕ) → i < n → P i (slice_index_or items i d)

-- where there is something for each number, there is such a list
choose : {X : Type 0} (P : ℕ → X → Type 0) (d : X) (n : ℕ) → ((i : ℕ) → i < n → (x : X) × P i x) → Chosen P d n
choose P d zero there = record { items = []; long = refl; each = λ i within. absurd (omega arith) }
choose P d (suc n) there =
    let before : Chosen P d n = choose P d n (λ i within. there i (omega arith)) in
    let last = there n (omega arith) in
    record {
      items = before.items ++ last.0 ∷ [];
      long = omega (arith, length_push before.items last.0, before.long);
      each = λ i within.
          elim (cases_eq i n) [
            | inl e ↦ rw (e, get_or_at before.items last.0 [] d n before.long) last.1
            | inr ne ↦ rw (get_or_append_left before.items (last.0 ∷ []) d i (omega (arith, before.long))) (before.each i (omega arith))
          ];
    }

-- a plan of some words
plan_of : List (List Letter) → Plan
plan_of words = record { words = words }

-- an admissible plan goes on to any greater length
pub plan_goes_on : (net : Net) (t n : ℕ) (front : Plan) → IsValid net → IsAdmissiblePlanOfLength net t front → t ≤ n →
    (plan : Plan) × (IsAdmissiblePlanOfLength net n plan × (front_of_plan t plan ≡ front))
unfolding plan_of
plan_goes_on net t n front valid admissible shorter =
    let many : length front.words ≡ length net.signals = admissible.words.one_per_signal in
    let chosen : Chosen (λ s word. GoesOnFrom (signal_of net.signals s) (word_of front s) word n) [] (length net.signals) =
    choose (λ s word. GoesOnFrom (signal_of net.signals s) (word_of front s) word n) [] (length net.signals)
    (λ s within.
    word_goes_on (signal_of net.signals s) (word_of front s) n (valid.each_signal s _ within) (admissible.each s (omega arith))
    (let long : length (word_of front s) ≡ t = admissible.words.letters s (omega arith) in omega arith)) in
    let same : map (take t) chosen.items ≡ front.words =
    ext_get_or [] (map (take t) chosen.items) front.words (omega (arith, length-map chosen.items (take t), chosen.long))
    (λ s within.
    let there : s < length net.signals = omega (arith, length-map chosen.items (take t), chosen.long) in
    let long : length (word_of front s) ≡ t = admissible.words.letters s (omega arith) in
    get_or-map (take t) chosen.items s [] [] (omega (arith, chosen.long))
    ∙ ap (λ k. take k (slice_index_or chosen.items s [])) (sym long)
    ∙ (chosen.each s there).begins) in (
      plan_of chosen.items,
      (
        record {
          words = record {
            one_per_signal = chosen.long;
            letters = λ s within. (chosen.each s (omega (arith, chosen.long))).long;
          };
          each = λ s within. (chosen.each s (omega (arith, chosen.long))).admissible;
        },
        ap plan_of same,
      ),
    )

-- a valid network has an admissible plan of each length
pub plan_exists : (net : Net) (t : ℕ) → IsValid net → (plan : Plan) × IsAdmissiblePlanOfLength net t plan
plan_exists net t valid =
    let chosen : Chosen (λ s word. IsAdmissible (signal_of net.signals s) word × (length word ≡ t)) [] (length net.signals) =
    choose (λ s word. IsAdmissible (signal_of net.signals s) word × (length word ≡ t)) [] (length net.signals)
    (λ s within. word_exists (signal_of net.signals s) t (valid.each_signal s _ within)) in (
      record { words = chosen.items },
      record {
        words = record {
          one_per_signal = chosen.long;
          letters = λ s within. (chosen.each s (omega (arith, chosen.long))).1;
        };
        each = λ s within. (chosen.each s (omega (arith, chosen.long))).0;
      },
    )
