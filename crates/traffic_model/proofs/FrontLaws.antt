-- Laws of fronts: the first letters of an admissible word are an admissible word, the first letters of an admissible plan an
-- admissible plan, which shows the same letters and has no more delay.
use Rattle.std.proofs.Common.{◌≡◌, ℕ, ◌<◌, ◌≤◌, List, [], ◌++◌, length, slice_index_or, sym, ap, ◌∙◌, arith}
use Rattle.std.specs.Prelude.{take, drop}
use Rattle.std.proofs.lemmas.List.{append_assoc, ext_get_or, get_or-map, get_or-take, length-map, length-take-le, take-append-drop}
use Rattle.ct_base.specs.Access.{signal_of}
use Rattle.ct_base.specs.declared.cell.Cell.{Cell}
use Rattle.ct_base.specs.declared.net.Net.{Net}
use Rattle.ct_base.specs.declared.plan.Letter.{Letter}
use Rattle.ct_base.specs.declared.plan.Letter.TheVariants.{Clear}
use Rattle.ct_base.specs.declared.plan.Plan.{Plan}
use Rattle.ct_base.specs.declared.signal.Signal.{Signal}
use Rattle.traffic_model.specs.Delay.{delay_of, letters_at}
use Rattle.traffic_model.specs.Runs.{IsAdmissible, IsAdmissiblePlanOfLength, front_of_plan, word_of}
use Rattle.traffic_model.proofs.LetterLaws.{length-letters_at, letters_at-signal}
use Rattle.traffic_model.proofs.PrefixLaws.{delay_of-agree, delay_of-grows}

-- the front of an admissible word begins the letters of the same runs
pub take-admissible : (signal : Signal) (word : List Letter) (t : ℕ) → IsAdmissible signal word → IsAdmissible signal (take t word)
take-admissible signal word t admissible = record {
  runs = admissible.runs;
  rest = drop t word ++ admissible.rest;
  are_runs = admissible.are_runs;
  begins =
      admissible.begins
      ∙ ap (λ letters. letters ++ admissible.rest) (sym (take-append-drop t word))
      ∙ append_assoc (take t word) (drop t word) admissible.rest;
}

-- the word of a signal in a front
pub front-word : (plan : Plan) (t s : ℕ) → s < length plan.words →
    word_of (front_of_plan t plan) s ≡ take t (word_of plan s)
front-word plan t s within = get_or-map (take t) plan.words s [] [] within

-- a front has a word for each signal
pub length-front : (plan : Plan) (t : ℕ) → length (front_of_plan t plan).words ≡ length plan.words
length-front plan t = length-map plan.words (take t)

-- the front of an admissible plan is an admissible plan
pub front-admissible : (net : Net) (n t : ℕ) (plan : Plan) → IsAdmissiblePlanOfLength net n plan → t ≤ n → IsAdmissiblePlanOfLength net t (front_of_plan t plan)
front-admissible net n t plan admissible shorter =
    let many : length (front_of_plan t plan).words ≡ length plan.words = length-front plan t in
    record {
      words = record {
        one_per_signal = many ∙ admissible.words.one_per_signal;
        letters = λ s within.
            let there : s < length plan.words = omega arith in
            let long : length (word_of plan s) ≡ n = admissible.words.letters s there in
            ap length (front-word plan t s there) ∙ length-take-le t (word_of plan s) (omega arith);
      };
      each = λ s within.
          let there : s < length plan.words = omega arith in
          rw (front-word plan t s there) (take-admissible (signal_of net.signals s) (word_of plan s) t (admissible.each s there));
    }

-- a front shows what the plan shows
pub letters_at-front : (plan : Plan) (t u : ℕ) → u < t → letters_at (front_of_plan t plan).words u ≡ letters_at plan.words u
letters_at-front plan t u before =
    let many : length (front_of_plan t plan).words ≡ length plan.words = length-front plan t in
    let shown : length (letters_at (front_of_plan t plan).words u) ≡ length (front_of_plan t plan).words = length-letters_at (front_of_plan t plan).words u in
    let whole : length (letters_at plan.words u) ≡ length plan.words = length-letters_at plan.words u in
    ext_get_or (Clear 0) (letters_at (front_of_plan t plan).words u) (letters_at plan.words u) (omega arith)
    (λ s within.
    let there : s < length plan.words = omega arith in
    letters_at-signal (front_of_plan t plan).words u s (omega arith)
    ∙ ap (λ (word : List Letter). slice_index_or word u (Clear 0)) (front-word plan t s there)
    ∙ get_or-take t (word_of plan s) u (Clear 0) before
    ∙ sym (letters_at-signal plan.words u s there))

-- a plan has at least the delay of its front
pub delay_of-front : (cells : List Cell) (plan : Plan) (t k : ℕ) → t ≤ k →
    delay_of cells (letters_at (front_of_plan t plan).words) t ≤ delay_of cells (letters_at plan.words) k
delay_of-front cells plan t k shorter =
    let front : delay_of cells (letters_at (front_of_plan t plan).words) t ≡ delay_of cells (letters_at plan.words) t =
    delay_of-agree cells (letters_at (front_of_plan t plan).words) (letters_at plan.words) t (λ u before. letters_at-front plan t u before) in
    let more : delay_of cells (letters_at plan.words) t ≤ delay_of cells (letters_at plan.words) k = delay_of-grows cells (letters_at plan.words) t k shorter in
    omega arith
