-- Lines of certificates that were looked at by hand: the definitions compute what they name.
use Rattle.std.proofs.Common.{◌≡◌, refl, [], ◌∷◌, Some, None}
use Rattle.std.specs.Prelude.{codes, pos, negsuc}
use Rattle.std.specs.Fmt.{digits}
use Rattle.certificate_model.specs.Nodes.{LeafNode, SplitNode}
use Rattle.certificate_model.specs.Text.{bound_in, bound_line, node_in, node_line}
use Rattle.certificate_model.specs.Tree.{Empty, Fixed, Priced}

-- ---- lines that name a node

pub a_split : node_in (codes "split 2 0") ≡ Some (SplitNode 2 (pos 0))
unfolding node_in
a_split = refl

pub a_split_below_nought : node_in (codes "split 17 -4") ≡ Some (SplitNode 17 (negsuc 3))
unfolding node_in
a_split_below_nought = refl

pub a_priced_leaf : node_in (codes "priced 2 1024") ≡ Some (LeafNode (Priced ((2, pos 1024) ∷ [])))
unfolding node_in
a_priced_leaf = refl

pub two_pairs : node_in (codes "priced 2 1024 7 -3") ≡ Some (LeafNode (Priced ((2, pos 1024) ∷ (7, negsuc 2) ∷ [])))
unfolding node_in
two_pairs = refl

-- without pairs
pub no_price : node_in (codes "priced") ≡ Some (LeafNode (Priced []))
unfolding node_in
no_price = refl

pub an_empty_leaf : node_in (codes "empty 5 1") ≡ Some (LeafNode (Empty ((5, pos 1) ∷ [])))
unfolding node_in
an_empty_leaf = refl

pub a_fixed_leaf : node_in (codes "fixed") ≡ Some (LeafNode Fixed)
unfolding node_in
a_fixed_leaf = refl

-- rows that do not rise have a line: they break it later
pub rows_that_fall : node_in (codes "priced 7 1 2 1") ≡ Some (LeafNode (Priced ((7, pos 1) ∷ (2, pos 1) ∷ [])))
unfolding node_in
rows_that_fall = refl

-- ---- and lines that name none

pub a_price_of_nought : node_in (codes "empty 5 0") ≡ None
unfolding node_in
a_price_of_nought = refl

-- a second spelling of 1
pub a_leading_nought : node_in (codes "empty 5 01") ≡ None
unfolding node_in
a_leading_nought = refl

pub a_split_without_a_value : node_in (codes "split 2") ≡ None
unfolding node_in
a_split_without_a_value = refl

pub a_row_without_a_price : node_in (codes "priced 1") ≡ None
unfolding node_in
a_row_without_a_price = refl

pub a_space_at_the_end : node_in (codes "fixed ") ≡ None
unfolding node_in
a_space_at_the_end = refl

pub two_spaces : node_in (codes "split 2  0") ≡ None
unfolding node_in
two_spaces = refl

pub a_column_of_ten_digits : node_in (codes "split 1000000000 0") ≡ None
unfolding node_in
a_column_of_ten_digits = refl

pub no_word : node_in [] ≡ None
unfolding node_in
no_word = refl

-- ---- the line of the bound

pub a_bound : bound_in (codes "bound -12") ≡ Some (negsuc 11)
unfolding bound_in
a_bound = refl

pub a_bound_with_more : bound_in (codes "bound 1 2") ≡ None
unfolding bound_in
a_bound_with_more = refl

-- ---- lines that are written

pub a_bound_is_written : bound_line (negsuc 11) ≡ codes "bound -12"
unfolding digits
a_bound_is_written = refl

pub pairs_are_written : node_line (LeafNode (Priced ((2, pos 1024) ∷ (7, negsuc 2) ∷ []))) ≡ codes "priced 2 1024 7 -3"
unfolding digits
pairs_are_written = refl

pub a_split_is_written : node_line (SplitNode 17 (negsuc 3)) ≡ codes "split 17 -4"
unfolding digits
a_split_is_written = refl
