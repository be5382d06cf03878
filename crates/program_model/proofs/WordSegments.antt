-- An admissible word is cut from segments, so its letters keep what those of segments keep.
use Rattle.std.proofs.Common.{◌≡◌, ◌≢◌, ℕ, zero, suc, ◌+◌, ◌<◌, ◌≤◌, ◌^◌, true, List, [], ◌∷◌, ◌++◌, length, replicate, refl, ap, subst, ◌∙◌, sym, arith}
use Rattle.std.specs.Prelude.{◌==◌}
use Rattle.std.specs.Int.{bit_at}
use Rattle.std.specs.List.{flat_map}
use Rattle.std.proofs.lemmas.Bool.{and_from, eq-eqb, or_right}
use Rattle.std.proofs.lemmas.Grind.{flat_map-append}
use Rattle.std.proofs.lemmas.List.{append-nil, get_or_append_left, length-append}
use Rattle.ct_base.specs.Access.{phase_of}
use Rattle.ct_base.specs.Validity.{IsPhase, IsSignal}
use Rattle.ct_base.specs.declared.plan.Letter.{Letter}
use Rattle.ct_base.specs.declared.plan.Letter.TheVariants.{Green, Clear}
use Rattle.ct_base.specs.declared.signal.Signal.{Signal}
use Rattle.traffic_model.specs.Runs.{AreRuns, IsAdmissible, Run, letters_of_run, letters_of_runs}
use Rattle.program_model.specs.Existence.{IsLetterOf}
use Rattle.program_model.specs.RuleRows.{may_follow}
use Rattle.program_model.proofs.Segments.{AreSegments, Begins, MayStandBefore, Segment, least_steps, letter_in, letters_are_of, letters_end, letters_follow, letters_of_segment, letters_of_segments, letters_stay, most_steps}

-- the clearing of a phase, where it has some
abbrev pub clearing : ℕ → ℕ → List Segment
clearing p zero = []
clearing p (suc clear) = record { letter = Clear p; steps = suc clear } ∷ []

-- a run as one segment or two
abbrev pub segments_of_run : Signal → Run → List Segment
segments_of_run signal run = record { letter = Green run.phase; steps = run.green } ∷ clearing run.phase (phase_of signal run.phase).clear

abbrev pub segments_of_runs : Signal → List Run → List Segment
segments_of_runs signal runs = flat_map (segments_of_run signal) runs

-- they have the letters of the run
letters_of_clearing : (p clear : ℕ) → letters_of_segments (clearing p clear) ≡ replicate clear (Clear p)
letters_of_clearing p zero = refl
letters_of_clearing p (suc clear) = append-nil (replicate (suc clear) (Clear p))

letters_of_segments-run : (signal : Signal) (run : Run) → letters_of_segments (segments_of_run signal run) ≡ letters_of_run signal run
letters_of_segments-run signal run = ap (λ letters. replicate run.green (Green run.phase) ++ letters) (letters_of_clearing run.phase (phase_of signal run.phase).clear)

pub letters_of_segments-runs : (signal : Signal) (runs : List Run) → letters_of_segments (segments_of_runs signal runs) ≡ letters_of_runs signal runs
letters_of_segments-runs signal [] = refl
letters_of_segments-runs signal (run ∷ runs) =
    flat_map-append letters_of_segment (segments_of_run signal run) (segments_of_runs signal runs)
    ∙ ap (λ letters. letters ++ letters_of_segments (segments_of_runs signal runs)) (letters_of_segments-run signal run)
    ∙ ap (λ letters. letters_of_run signal run ++ letters) (letters_of_segments-runs signal runs)

-- runs of phases of a set stand behind a letter that they may follow
behind_letter : (signal : Signal) (letter : Letter) (allowed : ℕ) (runs : List Run) → AreRuns signal allowed runs →
    ((q : ℕ) → bit_at allowed q ≡ 1 → (may_follow signal letter (Green q) ≡ true) × (Green q ≢ letter)) → MayStandBefore signal letter (segments_of_runs signal runs)
behind_letter signal letter allowed [] are may = tt
behind_letter signal letter allowed (run ∷ runs) are may = may run.phase are.0.may_stand

-- greens of two phases differ
abbrev phase_in : Letter → ℕ
phase_in (Green p) = p
phase_in (Clear p) = p

-- a run and those behind it, as segments, where the clearing of its phase lasts so many steps
run_before : (signal : Signal) (run : Run) (runs : List Run) (clear : ℕ) → (phase_of signal run.phase).clear ≡ clear →
    IsPhase (length signal.phases) run.phase (phase_of signal run.phase) → run.phase < length signal.phases →
    (phase_of signal run.phase).min ≤ run.green → run.green ≤ (phase_of signal run.phase).max →
    AreRuns signal (phase_of signal run.phase).next runs → AreSegments signal (segments_of_runs signal runs) →
    AreSegments signal (record { letter = Green run.phase; steps = run.green } ∷ clearing run.phase clear ++ segments_of_runs signal runs)
run_before signal run runs zero lasts phase inside low high are segments = (
  record { letter = inside; some = omega (arith, phase.min.0, low); least = low; most = high },
  behind_letter signal (Green run.phase) (phase_of signal run.phase).next runs are
      (λ q stands. (
        or_right (q == run.phase) _ (and_from _ _ (eq-eqb _ 0 lasts) (eq-eqb _ 1 stands)),
        λ same. omega (arith, ap (bit_at (phase_of signal run.phase).next) (ap phase_in same), stands, phase.not_by_itself),
      )),
  segments,
)
run_before signal run runs (suc clear) lasts phase inside low high are segments = (
  record { letter = inside; some = omega (arith, phase.min.0, low); least = low; most = high },
  (eq-eqb run.phase run.phase refl, λ same. absurd (cc)),
  (
    record { letter = (inside, omega (arith, lasts)); some = omega arith; least = omega (arith, lasts); most = omega (arith, lasts) },
    behind_letter signal (Clear run.phase) (phase_of signal run.phase).next runs are (λ q stands. (eq-eqb _ 1 stands, λ same. absurd (cc))),
    segments,
  ),
)

-- the runs of a valid signal are segments
pub runs_are_segments : (signal : Signal) (allowed : ℕ) (runs : List Run) → IsSignal signal → AreRuns signal allowed runs → AreSegments signal (segments_of_runs signal runs)
runs_are_segments signal allowed [] valid are = tt
runs_are_segments signal allowed (run ∷ runs) valid are =
    run_before signal run runs (phase_of signal run.phase).clear refl (valid.each run.phase are.0.phase) are.0.phase are.0.green.0 are.0.green.1 are.1
    (runs_are_segments signal (phase_of signal run.phase).next runs valid are.1)

-- what the letters of a word keep
pub record KeepsRules (signal : Signal) (steps : ℕ) (letter : ℕ → Letter) : Type 0 where
  pub of : (t : ℕ) → t < steps → IsLetterOf signal (letter t)
  pub follow : (t : ℕ) → t + 1 < steps → may_follow signal (letter t) (letter (t + 1)) ≡ true
  pub stay : (t k : ℕ) → t + k < steps → Begins letter t → k < least_steps signal (letter t) → letter (t + k) ≡ letter t
  pub ends : (t : ℕ) → t + most_steps signal (letter t) < steps → (k : ℕ) × (k ≤ most_steps signal (letter t)) × (letter (t + k) ≢ letter t)

-- those of an admissible word keep all of it
pub admissible_keeps : (signal : Signal) (word : List Letter) → IsSignal signal → IsAdmissible signal word → KeepsRules signal (length word) (letter_in word)
admissible_keeps signal word valid admissible =
    let segments : List Segment = segments_of_runs signal admissible.runs in
    let are : AreSegments signal segments = runs_are_segments signal (2 ^ signal.start) admissible.runs valid admissible.are_runs in
    let whole : letters_of_segments segments ≡ word ++ admissible.rest = letters_of_segments-runs signal admissible.runs ∙ admissible.begins in
    let long : length (letters_of_segments segments) ≡ length word + length admissible.rest = ap length whole ∙ length-append word admissible.rest in
    let at : (t : ℕ) → t < length word → letter_in (letters_of_segments segments) t ≡ letter_in word t =
    λ t inside. ap (λ letters. letter_in letters t) whole ∙ get_or_append_left word admissible.rest (Clear 0) t inside in
    record {
      of = λ t inside. subst (IsLetterOf signal) (at t inside) (letters_are_of signal segments are t (omega (arith, inside, long)));
      follow = λ t inside. rw (← at t (omega (arith, inside)), ← at (t + 1) inside) (letters_follow signal segments are t (omega (arith, inside, long)));
      stay = λ t k inside begins few.
          let here : letter_in (letters_of_segments segments) t ≡ letter_in word t = at t (omega (arith, inside)) in
          sym (at (t + k) inside)
          ∙ letters_stay signal segments are t k (omega (arith, inside, long))
          (λ s e same. begins s e (sym (at s (omega (arith, inside, e))) ∙ same ∙ here))
          (rw here few)
          ∙ here;
      ends = λ t inside.
          let here : letter_in (letters_of_segments segments) t ≡ letter_in word t = at t (omega (arith, inside)) in
          let later : (k : ℕ) × (k ≤ most_steps signal (letter_in (letters_of_segments segments) t)) × (letter_in (letters_of_segments segments) (t + k) ≢ letter_in (letters_of_segments segments) t) =
          letters_end signal segments are t (rw here (omega (arith, inside, long))) in
          let few : later.0 ≤ most_steps signal (letter_in word t) = subst (λ (letter : Letter). later.0 ≤ most_steps signal letter) here later.1 in
          (later.0, few, λ same. later.2 (at (t + later.0) (omega (arith, few, inside)) ∙ same ∙ sym here));
    }
