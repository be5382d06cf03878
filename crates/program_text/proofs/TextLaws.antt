-- Texts that are written piece by piece.
use Rattle.std.proofs.Common.{◌≡◌, ℕ, List, [], ◌∷◌, ◌++◌, map, refl, sym, ap, ◌∙◌}
use Rattle.std.specs.Prelude.{ℤ, codes, flat_map}
use Rattle.std.specs.Fmt.{signed_decimal}
use Rattle.std.proofs.lemmas.List.{append-nil, append_assoc}
use Rattle.std.proofs.lemmas.List.Concat.{flat_map-append}
use Rattle.std.proofs.lemmas.List.Folds.{flat_map-map}
use Rattle.texts.specs.Lines.{line_of_words, text_of_lines}
use Rattle.sparse_program.specs.Program.{Parts}
use Rattle.sparse_program.specs.declared.column.Col.{Col}
use Rattle.sparse_program.specs.declared.row.Row.{Row}
use Rattle.program_text.specs.ProgramText.{column_line, columns_line, program_text, relation_word, row_line, rows_line, term_word}
use Rattle.program_text.specs.PointText.{point_text}

-- ---- lines and words

-- a line of words is its first word, and each further one behind a space
words_behind : (word : List ℕ) (words : List (List ℕ)) → line_of_words (word ∷ words) ≡ word ++ flat_map (λ word. 32 ∷ word) words
words_behind word [] = sym (append-nil word)
words_behind word (next ∷ more) = ap (λ rest. word ++ 32 ∷ rest) (words_behind next more)

-- the lines of the items of a list
text_of_items : {X : Type 0} (line : X → List ℕ) (items : List X) → text_of_lines (map line items) ≡ flat_map (λ item. line item ++ 10 ∷ []) items
text_of_items line items = flat_map-map (λ line. line ++ 10 ∷ []) line items

-- lines before others
pub text_of_both : (lines more : List (List ℕ)) → text_of_lines (lines ++ more) ≡ text_of_lines lines ++ text_of_lines more
text_of_both lines more = flat_map-append (λ line. line ++ 10 ∷ []) lines more

-- ---- a program

-- three numbers with their spaces, and a line feed
pub column_is_added : (old a b c d e new low high cost : List ℕ) → a ≡ old ++ low → b ≡ a ++ 32 ∷ [] → c ≡ b ++ high → d ≡ c ++ 32 ∷ [] → e ≡ d ++ cost → new ≡ e ++ 10 ∷ [] →
    new ≡ old ++ (line_of_words (low ∷ high ∷ cost ∷ []) ++ 10 ∷ [])
column_is_added old a b c d e new low high cost at_a at_b at_c at_d at_e at_new = rw (at_new, at_e, at_d, at_c, at_b, at_a) (simp append_assoc refl)

-- how the sum compares, the right side, the terms and a line feed
row_is : (row : Row) → row_line row ≡ relation_word row.equal ++ (32 ∷ signed_decimal row.rhs ++ flat_map (λ (term : ℕ × ℤ). 32 ∷ term_word term) row.terms)
row_is row =
    words_behind (relation_word row.equal) (signed_decimal row.rhs ∷ map term_word row.terms)
    ∙ ap (λ terms. relation_word row.equal ++ (32 ∷ signed_decimal row.rhs ++ terms)) (flat_map-map (λ word. 32 ∷ word) term_word row.terms)

row_in_order : (old relation rhs terms : List ℕ) → old ++ relation ++ 32 ∷ [] ++ rhs ++ terms ++ 10 ∷ [] ≡ old ++ ((relation ++ (32 ∷ rhs ++ terms)) ++ 10 ∷ [])
row_in_order old relation rhs terms = simp append_assoc refl

pub row_is_added : (row : Row) (old a b c d new relation : List ℕ) (terms : List (ℕ × ℤ)) → relation ≡ relation_word row.equal → terms ≡ row.terms → a ≡ old ++ relation → b ≡ a ++ 32 ∷ [] → c ≡ b ++ signed_decimal row.rhs →
    d ≡ c ++ flat_map (λ (term : ℕ × ℤ). 32 ∷ term_word term) terms → new ≡ d ++ 10 ∷ [] → new ≡ old ++ (row_line row ++ 10 ∷ [])
row_is_added row old a b c d new relation terms compares are at_a at_b at_c at_d at_new =
    rw (at_new, at_d, at_c, at_b, at_a, are, compares, row_is row) (row_in_order old (relation_word row.equal) (signed_decimal row.rhs) (flat_map (λ (term : ℕ × ℤ). 32 ∷ term_word term) row.terms))

-- all lines of a program
program_is : (program : Parts) →
    program_text program
    ≡ codes "ctm-program 1\n"
    ++ ((columns_line program ++ 10 ∷ [])
    ++ (flat_map (λ (col : Col). column_line col ++ 10 ∷ []) program.columns
    ++ ((rows_line program ++ 10 ∷ []) ++ (flat_map (λ (row : Row). row_line row ++ 10 ∷ []) program.rows ++ codes "end\n"))))
unfolding program_text
program_is program =
    let rows : text_of_lines (map row_line program.rows ++ codes "end" ∷ []) ≡ flat_map (λ (row : Row). row_line row ++ 10 ∷ []) program.rows ++ codes "end\n" =
    text_of_both (map row_line program.rows) (codes "end" ∷ []) ∙ ap (λ rows. rows ++ codes "end\n") (text_of_items row_line program.rows) in
    ap (λ rest. codes "ctm-program 1\n" ++ ((columns_line program ++ 10 ∷ []) ++ rest))
    (text_of_both (map column_line program.columns) (rows_line program ∷ (map row_line program.rows ++ codes "end" ∷ []))
    ∙ ap (λ columns. columns ++ ((rows_line program ++ 10 ∷ []) ++ text_of_lines (map row_line program.rows ++ codes "end" ∷ []))) (text_of_items column_line program.columns)
    ∙ ap (λ rows. flat_map (λ (col : Col). column_line col ++ 10 ∷ []) program.columns ++ ((rows_line program ++ 10 ∷ []) ++ rows)) rows)

in_order : (a b c d e f : List ℕ) → a ++ b ++ c ++ d ++ e ++ f ≡ a ++ (b ++ (c ++ (d ++ (e ++ f))))
in_order a b c d e f = simp append_assoc refl

pub program_is_written : (program : Parts) (a b c d e new : List ℕ) → a ≡ codes "ctm-program 1\n" → b ≡ a ++ (columns_line program ++ 10 ∷ []) →
    c ≡ b ++ flat_map (λ (col : Col). column_line col ++ 10 ∷ []) program.columns → d ≡ c ++ (rows_line program ++ 10 ∷ []) →
    e ≡ d ++ flat_map (λ (row : Row). row_line row ++ 10 ∷ []) program.rows → new ≡ e ++ codes "end\n" → new ≡ program_text program
program_is_written program a b c d e new at_a at_b at_c at_d at_e at_new =
    rw (at_new, at_e, at_d, at_c, at_b, at_a) (in_order (codes "ctm-program 1\n") (columns_line program ++ 10 ∷ []) _ (rows_line program ++ 10 ∷ []) _ (codes "end\n")) ∙ sym (program_is program)

-- ---- a point

-- the first line, one for each value, and the last
pub point_is_written : (values : List ℤ) (text new : List ℕ) → text ≡ codes "ctm-point 1\n" ++ flat_map (λ (value : ℤ). signed_decimal value ++ 10 ∷ []) values → new ≡ text ++ codes "end\n" → new ≡ point_text values
unfolding point_text
point_is_written values text new lines ended =
    ended ∙ ap (λ text. text ++ codes "end\n") lines ∙ ap (λ values. codes "ctm-point 1\n" ++ values ++ codes "end\n") (sym (text_of_items signed_decimal values))
    ∙ sym (ap (λ rest. codes "ctm-point 1\n" ++ rest) (text_of_both (map signed_decimal values) (codes "end" ∷ [])))
