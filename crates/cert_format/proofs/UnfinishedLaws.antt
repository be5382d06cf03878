-- Bytes that are read as those of a line are.
use Rattle.std.proofs.Common.{◌≡◌, ◌⊎◌, inl, inr, ℕ, zero, suc, ◌+◌, ◌-◌, ◌<◌, ◌≤◌, true, false, List, [], ◌∷◌, ◌++◌, length, set, take, drop, None, refl, sym, ap, subst, ◌∙◌, arith}
use Rattle.std.specs.Prelude.{◌==◌, ℤ, codes, option_map}
use Rattle.std.specs.Str.{bytes_eq}
use Rattle.std.proofs.lemmas.Bool.{ne_eqb, true≢false}
use Rattle.std.proofs.lemmas.List.{append-nil, append_assoc, length-append}
use Rattle.std.proofs.Math.Dec.{eqb-suc-zero}
use Rattle.std.proofs.Math.Seq.{drop-append-add, take-add, take-append-add}
use Rattle.texts.specs.Lines.{IsFirstWord, words_of}
use Rattle.texts.proofs.LineLaws.{first_word}
use Rattle.certificate_model.specs.Nodes.{LeafNode}
use Rattle.certificate_model.specs.Tree.{Empty, Priced}
use Rattle.certificate_model.specs.Text.{bound_in, bound_of_words, end_line, head_line, node_in, node_of_words, pairs_in}
use Rattle.cert_format.specs.Marks.{with_first}
use Rattle.cert_format.specs.Unfinished.{ReadsAs}
use Rattle.cert_format.specs.declared.spare.Spare.{Spare}
use Rattle.cert_format.specs.inner.SparePairs.{HaveSameFirst, IsBroken, IsSpare, IsSpareOfWords, without}
use Rattle.cert_format.proofs.BrokenLaws.{leaf_word, may_have_pairs}
use Rattle.cert_format.proofs.LineLaws.{empty_with_first, priced_with_first}
use Rattle.cert_format.proofs.WordLaws.{first_word-more}

-- ---- one after another

-- bytes are read as themselves
pub reads_as_itself : (most : ℕ) (line : List ℕ) → ReadsAs most line line
reads_as_itself most line = record { node = λ more. refl; bound = λ more. refl; head = λ more. refl; last = λ more. refl; none = refl }

-- what is read as bytes that are read as a line is read as the line
pub reads_as-trans : (most : ℕ) (kept bytes line : List ℕ) → ReadsAs most kept bytes → ReadsAs most bytes line → ReadsAs most kept line
reads_as-trans most kept bytes line first second = record {
  node = λ more. first.node more ∙ second.node more;
  bound = λ more. first.bound more ∙ second.bound more;
  head = λ more. first.head more ∙ second.head more;
  last = λ more. first.last more ∙ second.last more;
  none = first.none ∙ second.none;
}

none_more : (a b n : ℕ) → (a == 0) ≡ (b == 0) → (a + n == 0) ≡ (b + n == 0)
none_more zero zero n same = refl
none_more (suc a) (suc b) n same = ne_eqb (suc a + n) 0 (λ none. absurd (omega (arith, none))) ∙ sym (ne_eqb (suc b + n) 0 (λ none. absurd (omega (arith, none))))
none_more zero (suc b) n same = absurd (true≢false (same ∙ eqb-suc-zero b))
none_more (suc a) zero n same = absurd (true≢false (sym same ∙ eqb-suc-zero a))

-- with the same bytes behind both
pub reads_as-append : (most : ℕ) (kept line bytes : List ℕ) → ReadsAs most kept line → ReadsAs most (kept ++ bytes) (line ++ bytes)
reads_as-append most kept line bytes reads = record {
  node = λ more.
      ap (λ text. option_map (with_first most) (node_in text)) (append_assoc kept bytes more) ∙ reads.node (bytes ++ more)
      ∙ ap (λ text. option_map (with_first most) (node_in text)) (sym (append_assoc line bytes more));
  bound = λ more. ap bound_in (append_assoc kept bytes more) ∙ reads.bound (bytes ++ more) ∙ ap bound_in (sym (append_assoc line bytes more));
  head = λ more.
      ap (λ text. bytes_eq text head_line) (append_assoc kept bytes more) ∙ reads.head (bytes ++ more)
      ∙ ap (λ text. bytes_eq text head_line) (sym (append_assoc line bytes more));
  last = λ more.
      ap (λ text. bytes_eq text end_line) (append_assoc kept bytes more) ∙ reads.last (bytes ++ more)
      ∙ ap (λ text. bytes_eq text end_line) (sym (append_assoc line bytes more));
  none =
      ap (λ count. count == 0) (length-append kept bytes) ∙ none_more (length kept) (length line) (length bytes) reads.none
      ∙ ap (λ count. count == 0) (sym (length-append line bytes));
}

-- ---- a whole line

-- the line itself is read as what is kept of it
pub whole_node : (most : ℕ) (kept line : List ℕ) → ReadsAs most kept line → option_map (with_first most) (node_in kept) ≡ option_map (with_first most) (node_in line)
whole_node most kept line reads =
    ap (λ text. option_map (with_first most) (node_in text)) (sym (append-nil kept)) ∙ reads.node [] ∙ ap (λ text. option_map (with_first most) (node_in text)) (append-nil line)

pub whole_bound : (most : ℕ) (kept line : List ℕ) → ReadsAs most kept line → bound_in kept ≡ bound_in line
whole_bound most kept line reads = ap bound_in (sym (append-nil kept)) ∙ reads.bound [] ∙ ap bound_in (append-nil line)

pub whole_head : (most : ℕ) (kept line : List ℕ) → ReadsAs most kept line → bytes_eq kept head_line ≡ bytes_eq line head_line
whole_head most kept line reads =
    ap (λ text. bytes_eq text head_line) (sym (append-nil kept)) ∙ reads.head [] ∙ ap (λ text. bytes_eq text head_line) (append-nil line)

pub whole_end : (most : ℕ) (kept line : List ℕ) → ReadsAs most kept line → bytes_eq kept end_line ≡ bytes_eq line end_line
whole_end most kept line reads =
    ap (λ text. bytes_eq text end_line) (sym (append-nil kept)) ∙ reads.last [] ∙ ap (λ text. bytes_eq text end_line) (append-nil line)

-- ---- a line that names nothing any more

-- no words behind a word of no bytes are a bound
no_word : (words : List (List ℕ)) → bound_of_words ([] ∷ words) ≡ None
no_word [] = refl
no_word (number ∷ []) = refl
no_word (number ∷ next ∷ more) = refl

-- a space names nothing, whatever comes behind it
space_is_broken : IsBroken (32 ∷ [])
unfolding node_in bound_in
space_is_broken = record { node = λ more. refl; bound = λ more. no_word (words_of more); head = λ more. refl; last = λ more. refl }

-- so it is read as such a line is
broken_reads : (most : ℕ) (line : List ℕ) → 0 < length line → IsBroken line → ReadsAs most (32 ∷ []) line
broken_reads most line some broken = record {
  node = λ more. ap (option_map (with_first most)) (space_is_broken.node more ∙ sym (broken.node more));
  bound = λ more. space_is_broken.bound more ∙ sym (broken.bound more);
  head = λ more. space_is_broken.head more ∙ sym (broken.head more);
  last = λ more. space_is_broken.last more ∙ sym (broken.last more);
  none = sym (ne_eqb (length line) 0 (λ none. absurd (omega (arith, none))));
}

-- the first byte alone, made a space
space_alone : (line : List ℕ) → 0 < length line → set (take 1 line) 0 32 ≡ 32 ∷ []
space_alone [] some = absurd (omega arith)
space_alone (byte ∷ []) some = refl
space_alone (byte ∷ next ∷ more) some = refl

pub space_reads : (most : ℕ) (kept line : List ℕ) → kept ≡ take 1 line → 0 < length line → IsBroken line → ReadsAs most (set kept 0 32) line
space_reads most kept line is some broken =
    subst (λ kept. ReadsAs most kept line) (sym (ap (λ kept. set kept 0 32) is ∙ space_alone line some)) (broken_reads most line some broken)

-- ---- the line of a leaf

leaf_node : (most : ℕ) (word : List ℕ) (words others : List (List ℕ)) → (word ≡ codes "priced") ⊎ (word ≡ codes "empty") → option_map (take most) (pairs_in words) ≡ option_map (take most) (pairs_in others) →
    option_map (with_first most) (node_of_words (word ∷ words)) ≡ option_map (with_first most) (node_of_words (word ∷ others))
leaf_node most word words others (inl priced) same =
    ap (λ word. option_map (with_first most) (node_of_words (word ∷ words))) priced
    ∙ priced_with_first most (pairs_in words) ∙ ap (option_map (λ (pairs : List (ℕ × ℤ)). LeafNode (Priced pairs))) same ∙ sym (priced_with_first most (pairs_in others))
    ∙ ap (λ word. option_map (with_first most) (node_of_words (word ∷ others))) (sym priced)
leaf_node most word words others (inr empty) same =
    ap (λ word. option_map (with_first most) (node_of_words (word ∷ words))) empty
    ∙ empty_with_first most (pairs_in words) ∙ ap (option_map (λ (pairs : List (ℕ × ℤ)). LeafNode (Empty pairs))) same ∙ sym (empty_with_first most (pairs_in others))
    ∙ ap (λ word. option_map (with_first most) (node_of_words (word ∷ others))) (sym empty)

-- what no leaf is
leaf_no_bound : (word : List ℕ) (words : List (List ℕ)) → (word ≡ codes "priced") ⊎ (word ≡ codes "empty") → bound_of_words (word ∷ words) ≡ None
leaf_no_bound word [] leaf = refl
leaf_no_bound word (number ∷ []) (inl priced) = ap (λ word. bound_of_words (word ∷ number ∷ [])) priced
leaf_no_bound word (number ∷ []) (inr empty) = ap (λ word. bound_of_words (word ∷ number ∷ [])) empty
leaf_no_bound word (number ∷ next ∷ more) leaf = refl

leaf_no_head : (word text : List ℕ) → (word ≡ codes "priced") ⊎ (word ≡ codes "empty") → bytes_eq (word ++ text) head_line ≡ false
leaf_no_head word text (inl priced) = ap (λ word. bytes_eq (word ++ text) head_line) priced
leaf_no_head word text (inr empty) = ap (λ word. bytes_eq (word ++ text) head_line) empty

leaf_no_end : (word text : List ℕ) → (word ≡ codes "priced") ⊎ (word ≡ codes "empty") → bytes_eq (word ++ text) end_line ≡ false
leaf_no_end word text (inl priced) = ap (λ word. bytes_eq (word ++ text) end_line) priced
leaf_no_end word text (inr empty) = ap (λ word. bytes_eq (word ++ text) end_line) empty

some_bytes : (line word words : List ℕ) → IsFirstWord line word words → (length line == 0) ≡ false
some_bytes line word words first = ne_eqb (length line) 0 (λ none. absurd (omega (arith, none, ap length first.cut.joined, length-append word (32 ∷ words))))

begins_with : (line word words more : List ℕ) → IsFirstWord line word words → line ++ more ≡ word ++ 32 ∷ (words ++ more)
begins_with line word words more first = ap (λ line. line ++ more) first.cut.joined ∙ append_assoc word (32 ∷ words) more

-- two lines that begin with such a word, and whose words behind it name pairs with the same first ones
pub leaf_reads : (most : ℕ) (kept line word words others : List ℕ) → IsFirstWord kept word words → IsFirstWord line word others → may_have_pairs word ≡ true → HaveSameFirst most words others →
    ReadsAs most kept line
unfolding node_in bound_in
leaf_reads most kept line word words others first second may same =
    let leaf : (word ≡ codes "priced") ⊎ (word ≡ codes "empty") = leaf_word word may in
    record {
      node = λ more.
          ap (λ words. option_map (with_first most) (node_of_words words)) (first_word-more kept word words more first)
          ∙ leaf_node most word (words_of (words ++ more)) (words_of (others ++ more)) leaf (same more)
          ∙ ap (λ words. option_map (with_first most) (node_of_words words)) (sym (first_word-more line word others more second));
      bound = λ more.
          ap bound_of_words (first_word-more kept word words more first) ∙ leaf_no_bound word (words_of (words ++ more)) leaf
          ∙ sym (ap bound_of_words (first_word-more line word others more second) ∙ leaf_no_bound word (words_of (others ++ more)) leaf);
      head = λ more.
          ap (λ text. bytes_eq text head_line) (begins_with kept word words more first) ∙ leaf_no_head word (32 ∷ (words ++ more)) leaf
          ∙ sym (ap (λ text. bytes_eq text head_line) (begins_with line word others more second) ∙ leaf_no_head word (32 ∷ (others ++ more)) leaf);
      last = λ more.
          ap (λ text. bytes_eq text end_line) (begins_with kept word words more first) ∙ leaf_no_end word (32 ∷ (words ++ more)) leaf
          ∙ sym (ap (λ text. bytes_eq text end_line) (begins_with line word others more second) ∙ leaf_no_end word (32 ∷ (others ++ more)) leaf);
      none = some_bytes kept word words first ∙ sym (some_bytes line word others second);
    }

-- ---- pairs that are left out

-- bytes that are left out behind others are left out of the whole
without_behind : (front bytes : List ℕ) (spare : Spare) → without (record { start = length front + spare.start; end = length front + spare.end }) (front ++ bytes) ≡ front ++ without spare bytes
without_behind front bytes spare =
    ap (λ taken. taken ++ drop (length front + spare.end) (front ++ bytes)) (take-append-add front bytes spare.start)
    ∙ ap (λ dropped. (front ++ take spare.start bytes) ++ dropped) (drop-append-add front bytes spare.end)
    ∙ append_assoc front (take spare.start bytes) (drop spare.end bytes)

word_length : (word : List ℕ) → may_have_pairs word ≡ true → length word ≤ 6
word_length word may =
    elim (leaf_word word may) [
      | inl priced ↦ (let six = ap length priced in omega (arith, six))
      | inr empty ↦ (let five = ap length empty in omega (arith, five))
    ]

-- what can be left out of the words of a leaf can be left out of its line
pub spare_is : (most : ℕ) (line word words : List ℕ) (spare : Spare) → IsFirstWord line word words → may_have_pairs word ≡ true → IsSpareOfWords most words spare →
    IsSpare most line (record { start = length line - length words + spare.start; end = length line - length words + spare.end })
spare_is most line word words spare first may is =
    let front : List ℕ = word ++ 32 ∷ [] in
    let count : length front ≡ length word + 1 = length-append word (32 ∷ []) in
    let joined : line ≡ front ++ words = first.cut.joined ∙ sym (append_assoc word (32 ∷ []) words) in
    let long : length line ≡ length front + length words = ap length joined ∙ length-append front words in
    let before : length line - length words ≡ length front = omega (arith, long) in
    let six = word_length word may in
    let shown : without (record { start = length line - length words + spare.start; end = length line - length words + spare.end }) line ≡ word ++ 32 ∷ without spare words =
    ap (λ at. without (record { start = at + spare.start; end = at + spare.end }) line) before
    ∙ ap (without (record { start = length front + spare.start; end = length front + spare.end })) joined
    ∙ without_behind front words spare ∙ append_assoc word (32 ∷ []) (without spare words) in
    record {
      reads = leaf_reads most _ line word (without spare words) words (first_word _ word (without spare words) (record { joined = shown; first = first.cut.first })) first may is.same;
      ordered = omega (arith, is.ordered);
      within = omega (arith, is.within, long, before);
      few = omega (arith, is.few, is.within, long, before, count, six);
    }

-- ---- bytes that are added in steps

-- one step more
pub step_added : (most own at end : ℕ) (old new bytes line : List ℕ) → at ≤ end → own ≡ most → ReadsAs most old (line ++ take at bytes) →
    ((line : List ℕ) → ReadsAs own old line → ReadsAs own new (line ++ take (end - at) (drop at bytes))) → ReadsAs most new (line ++ take end bytes)
step_added most own at end old new bytes line ordered same before step =
    let after : ReadsAs own new ((line ++ take at bytes) ++ take (end - at) (drop at bytes)) = step (line ++ take at bytes) (subst (λ most. ReadsAs most old (line ++ take at bytes)) (sym same) before) in
    let whole : take at bytes ++ take (end - at) (drop at bytes) ≡ take end bytes = sym (take-add at (end - at) bytes) ∙ ap (λ n. take n bytes) (omega arith) in
    subst (λ most. ReadsAs most new (line ++ take end bytes)) same
    (subst (ReadsAs own new) (append_assoc line (take at bytes) (take (end - at) (drop at bytes)) ∙ ap (λ taken. line ++ taken) whole) after)
