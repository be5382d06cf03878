-- A tree as a list of tokens, by which a proof tells trees apart: each node comes behind what stands below it.
use Rattle.std.specs.Prelude.{◌≡◌, ℕ, zero, suc, ℤ, pos, List, [], ◌∷◌, ◌++◌, refl}
use Rattle.std.specs.Coded.{Coded, code_by, coded×, coded_list, coded_ℕ, coded_ℤ}
use Rattle.std.proofs.Common.{◌∙◌, ap}
use Rattle.certificate_model.specs.Tree as model
use Rattle.branch_tree.specs.Boxes.{Growing}
use Rattle.branch_tree.specs.OpenTree.{Closed, Open, OpenTree, Parted}

-- a kind (an open leaf, a priced, an empty and a fixed one, or a split), a number, a column and a value, and pairs
pub record Token : Type 0 where
  pub kind : ℕ
  pub number : ℕ
  pub column : ℕ
  pub at : ℤ
  pub pairs : List (ℕ × ℤ)

-- the token of a closed leaf
abbrev pub closed_token : ℕ → model.Leaf → Token
closed_token n (model.Priced pairs) = record { kind = 1; number = n; column = 0; at = pos 0; pairs = pairs }
closed_token n (model.Empty pairs) = record { kind = 2; number = n; column = 0; at = pos 0; pairs = pairs }
closed_token n model.Fixed = record { kind = 3; number = n; column = 0; at = pos 0; pairs = [] }

-- the tokens of a tree
abbrev pub tokens_of : OpenTree → List Token
tokens_of (Open n) = record { kind = 0; number = n; column = 0; at = pos 0; pairs = [] } ∷ []
tokens_of (Closed n leaf) = closed_token n leaf ∷ []
tokens_of (Parted n column at left right) =
    tokens_of left ++ (tokens_of right ++ record { kind = 4; number = n; column = column; at = at; pairs = [] } ∷ [])

-- the last two trees become the sides of a split
abbrev pub split_last : Token → List OpenTree → List OpenTree
split_last token [] = []
split_last token (only ∷ []) = []
split_last token (right ∷ left ∷ trees) = Parted token.number token.column token.at left right ∷ trees

-- the trees behind a token of a kind
abbrev pub behind_kind : ℕ → Token → List OpenTree → List OpenTree
behind_kind zero token trees = Open token.number ∷ trees
behind_kind (suc zero) token trees = Closed token.number (model.Priced token.pairs) ∷ trees
behind_kind (suc (suc zero)) token trees = Closed token.number (model.Empty token.pairs) ∷ trees
behind_kind (suc (suc (suc zero))) token trees = Closed token.number model.Fixed ∷ trees
behind_kind (suc (suc (suc (suc more)))) token trees = split_last token trees

-- the trees behind tokens
abbrev pub trees_behind : List Token → List OpenTree → List OpenTree
trees_behind [] trees = trees
trees_behind (token ∷ tokens) trees = trees_behind tokens (behind_kind token.kind token trees)

-- the last of some trees
abbrev pub last_tree : List OpenTree → OpenTree
last_tree [] = Open 0
last_tree (tree ∷ trees) = tree

-- tokens one after another
pub trees_behind-append : (first second : List Token) (trees : List OpenTree) → trees_behind (first ++ second) trees ≡ trees_behind second (trees_behind first trees)
trees_behind-append [] second trees = refl
trees_behind-append (token ∷ first) second trees = trees_behind-append first second (behind_kind token.kind token trees)

-- a closed leaf is read as it was written
closed_is_read : (n : ℕ) (leaf : model.Leaf) (trees : List OpenTree) → trees_behind (closed_token n leaf ∷ []) trees ≡ Closed n leaf ∷ trees
closed_is_read n (model.Priced pairs) trees = refl
closed_is_read n (model.Empty pairs) trees = refl
closed_is_read n model.Fixed trees = refl

-- and so is a tree
pub tree_is_read : (tree : OpenTree) (trees : List OpenTree) → trees_behind (tokens_of tree) trees ≡ tree ∷ trees
tree_is_read (Open n) trees = refl
tree_is_read (Closed n leaf) trees = closed_is_read n leaf trees
tree_is_read (Parted n column at left right) trees =
    let last : List Token = record { kind = 4; number = n; column = column; at = at; pairs = [] } ∷ [] in
    trees_behind-append (tokens_of left) (tokens_of right ++ last) trees
    ∙ ap (trees_behind (tokens_of right ++ last)) (tree_is_read left trees)
    ∙ trees_behind-append (tokens_of right) last (left ∷ trees)
    ∙ ap (trees_behind last) (tree_is_read right (left ∷ trees))

-- a token as a tuple
abbrev pub token_code : Coded Token
token_code =
    code_by (ℕ × (ℕ × (ℕ × (ℤ × List (ℕ × ℤ)))))
    (coded× coded_ℕ (coded× coded_ℕ (coded× coded_ℕ (coded× coded_ℤ (coded_list (coded× coded_ℕ coded_ℤ))))))
    (λ t. (t.kind, (t.number, (t.column, (t.at, t.pairs)))))
    (λ p. record { kind = p.0; number = p.1.0; column = p.1.1.0; at = p.1.1.1.0; pairs = p.1.1.1.1 })
    (λ _. refl)

-- a tree as its tokens
abbrev pub tree_code : Coded OpenTree
tree_code = code_by (List Token) (coded_list token_code) tokens_of (λ tokens. last_tree (trees_behind tokens [])) (λ tree. ap last_tree (tree_is_read tree []))

-- a tree with the box of its root
abbrev pub growing_code : Coded Growing
growing_code =
    code_by ((List ℤ × List ℤ) × OpenTree)
    (coded× (coded× (coded_list coded_ℤ) (coded_list coded_ℤ)) tree_code)
    (λ g. ((g.root.lows, g.root.highs), g.tree))
    (λ p. record { root = record { lows = p.0.0; highs = p.0.1 }; tree = p.1 })
    (λ _. refl)
