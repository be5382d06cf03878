-- A certificate that is written piece by piece.
use Rattle.std.proofs.Common.{◌≡◌, ℕ, List, [], ◌∷◌, ◌++◌, map, refl, sym, ap, ◌∙◌}
use Rattle.std.specs.Prelude.{ℤ, codes, flat_map}
use Rattle.std.specs.Fmt.{decimal, signed_decimal}
use Rattle.std.proofs.lemmas.List.{append-nil, append_assoc}
use Rattle.std.proofs.lemmas.List.Concat.{flat_map-append}
use Rattle.std.proofs.lemmas.List.Folds.{flat_map-map}
use Rattle.texts.specs.Lines.{line_of_words, text_of_lines}
use Rattle.certificate_model.specs.Text.{bound_line, certificate_text, end_line, node_line, pair_words}
use Rattle.cert_format.specs.Marks.{node_of}
use Rattle.cert_format.specs.declared.cert.Node.{Node}
use Rattle.cert_format.specs.inner.Spaces.{spaced_pair}

-- ---- a leaf

-- a line of words is its first word, and each further one behind a space
words_behind : (word : List ℕ) (words : List (List ℕ)) → line_of_words (word ∷ words) ≡ word ++ flat_map (λ word. 32 ∷ word) words
words_behind word [] = sym (append-nil word)
words_behind word (next ∷ more) = ap (λ rest. word ++ 32 ∷ rest) (words_behind next more)

-- the words of pairs, each behind a space
pairs_spaced : (pairs : List (ℕ × ℤ)) → flat_map (λ word. 32 ∷ word) (flat_map pair_words pairs) ≡ flat_map spaced_pair pairs
pairs_spaced [] = refl
pairs_spaced (pair ∷ pairs) =
    ap (λ rest. 32 ∷ (decimal pair.0 ++ (32 ∷ (signed_decimal pair.1 ++ rest)))) (pairs_spaced pairs)
    ∙ ap (λ rest. 32 ∷ rest) (sym (append_assoc (decimal pair.0) (32 ∷ signed_decimal pair.1) (flat_map spaced_pair pairs)))

pub leaf_is_added : (old word new : List ℕ) (pairs : List (ℕ × ℤ)) → new ≡ (old ++ word) ++ flat_map spaced_pair pairs → new ≡ old ++ line_of_words (word ∷ flat_map pair_words pairs)
leaf_is_added old word new pairs is =
    is ∙ append_assoc old word (flat_map spaced_pair pairs)
    ∙ ap (λ pairs. old ++ (word ++ pairs)) (sym (pairs_spaced pairs))
    ∙ ap (λ line. old ++ line) (sym (words_behind word (flat_map pair_words pairs)))

-- ---- all lines

nodes_are : (nodes : List Node) → text_of_lines (map node_line (map node_of nodes)) ≡ flat_map (λ (node : Node). node_line (node_of node) ++ 10 ∷ []) nodes
nodes_are nodes = flat_map-map (λ line. line ++ 10 ∷ []) node_line (map node_of nodes) ∙ flat_map-map (λ node. node_line node ++ 10 ∷ []) node_of nodes

certificate_is : (bound : ℤ) (nodes : List Node) →
    certificate_text bound (map node_of nodes)
    ≡ codes "ctm-cert 1\n" ++ ((bound_line bound ++ 10 ∷ []) ++ (flat_map (λ (node : Node). node_line (node_of node) ++ 10 ∷ []) nodes ++ codes "end\n"))
unfolding certificate_text
certificate_is bound nodes =
    ap (λ rest. codes "ctm-cert 1\n" ++ ((bound_line bound ++ 10 ∷ []) ++ rest))
    (flat_map-append (λ line. line ++ 10 ∷ []) (map node_line (map node_of nodes)) (end_line ∷ []) ∙ ap (λ nodes. nodes ++ codes "end\n") (nodes_are nodes))

in_order : (a b c d : List ℕ) → a ++ b ++ c ++ d ≡ a ++ (b ++ (c ++ d))
in_order a b c d = simp append_assoc refl

pub certificate_is_written : (bound : ℤ) (nodes : List Node) (a b c new : List ℕ) → a ≡ codes "ctm-cert 1\n" → b ≡ a ++ (bound_line bound ++ 10 ∷ []) →
    c ≡ b ++ flat_map (λ (node : Node). node_line (node_of node) ++ 10 ∷ []) nodes → new ≡ c ++ codes "end\n" → new ≡ certificate_text bound (map node_of nodes)
certificate_is_written bound nodes a b c new at_a at_b at_c at_new =
    rw (at_new, at_c, at_b, at_a) (in_order (codes "ctm-cert 1\n") (bound_line bound ++ 10 ∷ []) _ (codes "end\n")) ∙ sym (certificate_is bound nodes)
