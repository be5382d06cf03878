-- Laws of the bits of a plan: its words show them signal by signal, and words that show them are its words.
use Rattle.std.proofs.Common.{◌≡◌, inl, inr, ℕ, ◌+◌, ◌*◌, ◌<◌, ◌≤◌, List, [], ◌∷◌, ◌++◌, length, map, get_or, take, drop, refl, sym, ap, subst, ◌∙◌, arith}
use Rattle.std.specs.Prelude.{ℤ, pos}
use Rattle.std.proofs.Math.Seq.{get_or-append_seam}
use Rattle.std.proofs.lemmas.Bool.{cases_eq}
use Rattle.std.proofs.lemmas.List.{get_or_append_left, length-append, length-map, length-take, take_all}
use Rattle.listed.specs.Below.{join_below, sum_below}
use Rattle.listed.proofs.JoinLaws.{join_below-same, length-join_below}
use Rattle.ct_base.specs.Access.{signal_of}
use Rattle.ct_base.specs.declared.net.Net.{Net}
use Rattle.ct_base.specs.declared.plan.Letter.{Letter}
use Rattle.ct_base.specs.declared.plan.Plan.{Plan}
use Rattle.traffic_model.specs.Delay.{letters_at}
use Rattle.traffic_model.specs.Flow.{letter_of}
use Rattle.traffic_model.specs.Runs.{IsAdmissiblePlan, word_of}
use Rattle.traffic_model.proofs.LetterLaws.{letters_at-signal}
use Rattle.program_model.specs.Columns.{Bit, Column, bits_at, letters_of, plan_columns}
use Rattle.program_model.specs.Numbers.{bits_before, bits_of_step, plan_count}
use Rattle.program_model.specs.Values.{value_of}
use Rattle.program_model.proofs.Segments.{letter_in}
use Rattle.certificate_model.specs.Leaves.{bits_of}
use Rattle.plan_bits.specs.inner.Parts.{AreWordsOfBits, IsWordOfBits, bit_where, bits_where, part_of_signal, part_of_step}
use Rattle.plan_bits.proofs.PartLaws.{cut_parts, map-join_below, part_of_join, sum_below-equal}
use Rattle.plan_bits.proofs.WordLaws.{letter_shows, shows_where, word_is_long}

-- ---- the bits of words, part by part

-- what a plan column counts
abbrev count : Net → List (List Letter) → Column → ℤ
count net words c = pos (value_of net words c)

-- the letter that a signal shows in a step
abbrev shown : List (List Letter) → ℕ → ℕ → Letter
shown words t s = letter_in (get_or words s []) t

-- the bits of a signal in a step, and those of all signals
abbrev signal_bits : Net → List (List Letter) → ℕ → ℕ → List ℤ
signal_bits net words t s = bits_where (letters_of (signal_of net.signals s)) (shown words t s)

abbrev step_bits : Net → List (List Letter) → ℕ → List ℤ
step_bits net words t = join_below (length net.signals) (signal_bits net words t)

-- the bits of a signal that shows a letter
letters_count : (net : Net) (words : List (List Letter)) (t s : ℕ) (letter : Letter) (letters : List Letter) → letter_of (letters_at words t) s ≡ letter →
    map (count net words) (map (Bit t s) letters) ≡ bits_where letters letter
letters_count net words t s letter [] is = refl
letters_count net words t s letter (other ∷ letters) is =
    ap (λ (first : Letter). bit_where first other ∷ map (count net words) (map (Bit t s) letters)) is
    ∙ ap (λ list. bit_where letter other ∷ list) (letters_count net words t s letter letters is)

-- the bits of words are those of their letters, step by step and signal by signal
bits_joined : (net : Net) (words : List (List Letter)) → length words ≡ length net.signals → bits_of net words ≡ join_below net.steps (step_bits net words)
unfolding plan_columns bits_at
bits_joined net words long =
    map-join_below (count net words) net.steps (bits_at net.signals)
    ∙ join_below-same net.steps (λ t. map (count net words) (bits_at net.signals t)) (step_bits net words)
    (λ t before. map-join_below (count net words) (length net.signals) (λ s. map (Bit t s) (letters_of (signal_of net.signals s)))
    ∙ join_below-same (length net.signals) (λ s. map (count net words) (map (Bit t s) (letters_of (signal_of net.signals s)))) (signal_bits net words t)
    (λ s inside. letters_count net words t s (shown words t s) (letters_of (signal_of net.signals s)) (letters_at-signal words t s (omega (arith, inside, long)))))

-- how many bits a signal has in a step
length-signal_bits : (net : Net) (words : List (List Letter)) (t s : ℕ) → length (signal_bits net words t s) ≡ length (letters_of (signal_of net.signals s))
length-signal_bits net words t s = length-map (letters_of (signal_of net.signals s)) (bit_where (shown words t s))

-- and those of all signals
length-step_bits : (net : Net) (words : List (List Letter)) (t : ℕ) → length (step_bits net words t) ≡ bits_of_step net.signals
length-step_bits net words t =
    length-join_below (length net.signals) (signal_bits net words t) (λ s. length (letters_of (signal_of net.signals s))) (length-signal_bits net words t)

-- the part of a signal among the bits of words
part_is : (net : Net) (words : List (List Letter)) (t s : ℕ) → length words ≡ length net.signals → t < net.steps → s < length net.signals → part_of_signal net (bits_of net words) s t ≡ signal_bits net words t s
part_is net words t s long before inside =
    let w : ℕ = bits_of_step net.signals in
    let of_step : part_of_step net (bits_of net words) t ≡ step_bits net words t =
    ap (λ (bits : List ℤ). take w (drop (t * w) bits)) (bits_joined net words long)
    ∙ ap (λ (start : ℕ). take w (drop start (join_below net.steps (step_bits net words)))) (sym (sum_below-equal t w))
    ∙ part_of_join net.steps t (step_bits net words) (λ k. w) (length-step_bits net words) before in
    ap (λ (bits : List ℤ). take (length (letters_of (signal_of net.signals s))) (drop (bits_before net.signals s) bits)) of_step
    ∙ part_of_join (length net.signals) s (signal_bits net words t) (λ r. length (letters_of (signal_of net.signals r))) (length-signal_bits net words t) inside

-- ---- all bits by their parts

-- the parts of the signals of a step
step_parts : (net : Net) (bits : List ℤ) (t : ℕ) → join_below (length net.signals) (λ s. part_of_signal net bits s t) ≡ part_of_step net bits t
step_parts net bits t =
    let w : ℕ = bits_of_step net.signals in
    let all : length (part_of_step net bits t) ≤ w = omega (arith, length-take w (drop (t * w) bits)) in
    cut_parts (part_of_step net bits t) (length net.signals) (λ r. length (letters_of (signal_of net.signals r))) ∙ take_all w (part_of_step net bits t) all

-- the parts of all steps
all_parts : (net : Net) (bits : List ℤ) → length bits ≡ plan_count net → join_below net.steps (part_of_step net bits) ≡ bits
all_parts net bits long =
    let w : ℕ = bits_of_step net.signals in
    join_below-same net.steps (part_of_step net bits) (λ t. take w (drop (sum_below t (λ k. w)) bits)) (λ t before. ap (λ (start : ℕ). take w (drop start bits)) (sym (sum_below-equal t w)))
    ∙ cut_parts bits net.steps (λ k. w)
    ∙ take_all (sum_below net.steps (λ k. w)) bits (omega (arith, long, sum_below-equal net.steps w))

-- ---- plans

-- words that show bits signal by signal have these bits
pub words_have_bits : (net : Net) (bits : List ℤ) (words : List (List Letter)) → length bits ≡ plan_count net → AreWordsOfBits net bits (length net.signals) words → bits ≡ bits_of net words
words_have_bits net bits words long are =
    sym (all_parts net bits long)
    ∙ join_below-same net.steps (part_of_step net bits) (step_bits net words)
    (λ t before. sym (step_parts net bits t)
    ∙ join_below-same (length net.signals) (λ s. part_of_signal net bits s t) (signal_bits net words t)
    (λ s inside. letter_shows net bits s (get_or words s []) t (are.each s inside).shows before))
    ∙ sym (bits_joined net words are.one_per_signal)

-- and are an admissible plan
pub words_are_admissible : (net : Net) (bits : List ℤ) (plan : Plan) → AreWordsOfBits net bits (length net.signals) plan.words → IsAdmissiblePlan net plan
words_are_admissible net bits plan are = record {
  words = record {
    one_per_signal = are.one_per_signal;
    letters = λ s inside. word_is_long net bits s (word_of plan s) (are.each s (omega (arith, inside, are.one_per_signal))).shows;
  };
  each = λ s inside. (are.each s (omega (arith, inside, are.one_per_signal))).admissible;
}

-- the words of an admissible plan show its bits signal by signal
pub plan_shows_bits : (net : Net) (bits : List ℤ) (plan : Plan) → IsAdmissiblePlan net plan → bits ≡ bits_of net plan.words → AreWordsOfBits net bits (length net.signals) plan.words
plan_shows_bits net bits plan admissible is =
    let there : (s : ℕ) → s < length net.signals → s < length plan.words = λ s inside. omega (arith, inside, admissible.words.one_per_signal) in
    record {
      one_per_signal = admissible.words.one_per_signal;
      each = λ s inside. record {
        shows = shows_where net bits s (word_of plan s) (admissible.words.letters s (there s inside))
            (λ t before. ap (λ (values : List ℤ). part_of_signal net values s t) is ∙ part_is net plan.words t s admissible.words.one_per_signal before inside);
        admissible = admissible.each s (there s inside);
      };
    }

-- ---- one word more

-- so many words, and one more
pub word_more : (net : Net) (bits : List ℤ) (count : ℕ) (words new : List (List Letter)) (word : List Letter) → AreWordsOfBits net bits count words → IsWordOfBits net bits count word → new ≡ words ++ word ∷ [] →
    AreWordsOfBits net bits (count + 1) new
word_more net bits count words new word are is pushed =
    let own : AreWordsOfBits net bits (count + 1) (words ++ word ∷ []) = record {
      one_per_signal = omega (arith, length-append words (word ∷ []), are.one_per_signal);
      each = λ s inside.
          elim (cases_eq s count) [
            | inl last ↦
                let at : get_or (words ++ word ∷ []) s [] ≡ word = ap (λ (n : ℕ). get_or (words ++ word ∷ []) n []) (last ∙ sym are.one_per_signal) ∙ get_or-append_seam words word [] [] in
                subst (IsWordOfBits net bits s) (sym at) (subst (λ (n : ℕ). IsWordOfBits net bits n word) (sym last) is)
            | inr other ↦
                let before : s < count = omega (arith, inside, other) in
                let at : get_or (words ++ word ∷ []) s [] ≡ get_or words s [] = get_or_append_left words (word ∷ []) [] s (omega (arith, before, are.one_per_signal)) in
                subst (IsWordOfBits net bits s) (sym at) (are.each s before)
          ];
    } in
    subst (AreWordsOfBits net bits (count + 1)) (sym pushed) own
