-- Texts of lines that are written piece by piece.
use Rattle.std.proofs.Common.{◌≡◌, ℕ, ◌+◌, ◌-◌, ◌%◌, ◌<◌, ◌≤◌, eq-eqb, List, [], ◌∷◌, ◌++◌, refl, sym, ap, ◌∙◌}
use Rattle.std.specs.Prelude.{codes}
use Rattle.std.specs.Fmt.{decimal}
use Rattle.std.proofs.lemmas.Bool.{lt-ltb, le-ltb, ne_eqb}
use Rattle.std.proofs.lemmas.List.{append-nil, append_assoc}
use Rattle.std.proofs.lemmas.List.Concat.{flat_map-append}
use Rattle.texts.specs.Lines.{text_of_lines}
use Rattle.listed.specs.Below.{join_below}
use Rattle.listed.proofs.JoinLaws.{join_below-suc, join_below-zero}
use Rattle.generated_nets.specs.Spelling.{text_line}
use Rattle.generated_nets.specs.Generated.{demand_line, gate_lines, generated_text, junction_text, junctions_of, link_lines, named, phase_lines, side_rate, side_text, signal_text, steps_of, street_rate, street_text, top_text, turns_line, way_off_text}

-- lines before others
text_of_both : (lines more : List (List ℕ)) → text_of_lines (lines ++ more) ≡ text_of_lines lines ++ text_of_lines more
text_of_both lines more = flat_map-append (λ line. line ++ 10 ∷ []) lines more

-- some lines are added, and some more
pub lines_are_added : (old between new : List ℕ) (lines more : List (List ℕ)) → between ≡ old ++ text_of_lines lines → new ≡ between ++ text_of_lines more → new ≡ old ++ text_of_lines (lines ++ more)
lines_are_added old between new lines more first second =
    second ∙ ap (λ text. text ++ text_of_lines more) first ∙ append_assoc old (text_of_lines lines) (text_of_lines more) ∙ ap (λ text. old ++ text) (sym (text_of_both lines more))

-- ---- what is written with numbers and texts in it: the same bytes, in other brackets

-- a line with one text in it
line_in_order : (old before x quote feed : List ℕ) → old ++ (before ++ (x ++ (quote ++ feed))) ≡ old ++ (before ++ (((x ++ quote) ++ feed) ++ []))
line_in_order old before x quote feed = simp (append_assoc, append-nil) refl

-- the keys that each link has
link_in_order : (old before letter j quote feed cells number rest : List ℕ) →
    old ++ (before ++ (letter ++ (j ++ (quote ++ feed)))) ++ (cells ++ (number ++ (feed ++ rest))) ≡ old ++ (before ++ ((((letter ++ j) ++ quote) ++ feed) ++ (cells ++ ((number ++ feed) ++ rest))))
link_in_order old before letter j quote feed cells number rest = simp append_assoc refl

pub link_is_added : (old between new letter : List ℕ) (j cells : ℕ) → between ≡ old ++ (codes "[[link]]\nname = \"" ++ (letter ++ (decimal j ++ codes "\"\n"))) →
    new ≡ between ++ (codes "cells = " ++ (decimal cells ++ codes "\ncap = 10\nstore = 40\nwave = [1, 3]\n")) → new ≡ old ++ text_of_lines (link_lines (named letter j) cells)
link_is_added old between new letter j cells first second =
    rw (second, first)
    (link_in_order old (codes "[[link]]\nname = \"") letter (decimal j) (codes "\"") (codes "\n") (codes "cells = ") (decimal cells) (codes "cap = 10\nstore = 40\nwave = [1, 3]\n"))

-- the branches of the street
turns_in_order : (old before next quote parcel units end comma branch j one close feed : List ℕ) →
    old ++ (before ++ (next ++ ((quote ++ parcel) ++ (units ++ (end ++ comma))))) ++ (branch ++ (j ++ (quote ++ (parcel ++ (one ++ (end ++ (close ++ feed)))))))
    ≡ old ++ (before ++ (((((((((next ++ quote) ++ parcel) ++ units) ++ end) ++ comma) ++ (branch ++ ((((j ++ quote) ++ parcel) ++ one) ++ end))) ++ close) ++ feed) ++ []))
turns_in_order old before next quote parcel units end comma branch j one close feed = simp (append_assoc, append-nil) refl

pub turns_are_added : (old between new : List ℕ) (number j : ℕ) → between ≡ old ++ (codes "turns = [{ link = \"m" ++ (decimal (j + 1) ++ (codes "\", parcel = " ++ (decimal (2 + (number + j) % 3) ++ codes " }, ")))) →
    new ≡ between ++ (codes "{ link = \"o" ++ (decimal j ++ codes "\", parcel = 1 }]\n")) → new ≡ old ++ text_of_lines (turns_line number j ∷ [])
turns_are_added old between new number j first second =
    rw (second, first)
    (turns_in_order old (codes "turns = [{ link = \"m") (decimal (j + 1)) (codes "\"") (codes ", parcel = ") (decimal (2 + (number + j) % 3)) (codes " }") (codes ", ") (codes "{ link = \"o") (decimal j) (codes "1") (codes "]") (codes "\n"))

-- the signal of a junction and the phase
gate_in_order : (old before j quote feed greens phase close : List ℕ) → old ++ (before ++ (j ++ ((quote ++ (feed ++ greens)) ++ (phase ++ (quote ++ (close ++ feed)))))) ≡ old ++ (before ++ (((j ++ quote) ++ feed) ++ (greens ++ ((((phase ++ quote) ++ close) ++ feed) ++ []))))
gate_in_order old before j quote feed greens phase close = simp (append_assoc, append-nil) refl

pub gate_is_added : (old new phase : List ℕ) (j : ℕ) → new ≡ old ++ (codes "signal = \"k" ++ (decimal j ++ (codes "\"\ngreens = [\"" ++ (phase ++ codes "\"]\n")))) → new ≡ old ++ text_of_lines (gate_lines j phase)
gate_is_added old new phase j written = rw written (gate_in_order old (codes "signal = \"k") (decimal j) (codes "\"") (codes "\n") (codes "greens = [\"") phase (codes "]"))

-- a piece of demand
demand_in_order : (old before until key rate close feed : List ℕ) → old ++ (before ++ (until ++ (key ++ (rate ++ (close ++ feed))))) ≡ old ++ (before ++ (((((until ++ key) ++ rate) ++ close) ++ feed) ++ []))
demand_in_order old before until key rate close feed = simp (append_assoc, append-nil) refl

pub demand_is_added : (old new : List ℕ) (number rate : ℕ) → new ≡ old ++ (codes "demand = [{ from = 0, until = " ++ (decimal (steps_of number - 10) ++ (codes ", rate = " ++ (decimal rate ++ codes " }]\n")))) →
    new ≡ old ++ text_of_lines (demand_line number rate ∷ [])
demand_is_added old new number rate written = rw written (demand_in_order old (codes "demand = [{ from = 0, until = ") (decimal (steps_of number - 10)) (codes ", rate = ") (decimal rate) (codes " }]") (codes "\n"))

-- a phase
phase_in_order : (old before name quote feed min least max greatest rest following close : List ℕ) →
    old ++ (before ++ (name ++ ((quote ++ (feed ++ min)) ++ (least ++ feed)))) ++ (max ++ (greatest ++ ((feed ++ rest) ++ (following ++ (quote ++ (close ++ feed))))))
    ≡ old ++ (before ++ (((name ++ quote) ++ feed) ++ (min ++ ((least ++ feed) ++ (max ++ ((greatest ++ feed) ++ (rest ++ ((((following ++ quote) ++ close) ++ feed) ++ []))))))))
phase_in_order old before name quote feed min least max greatest rest following close = simp (append_assoc, append-nil) refl

pub phase_is_added : (old between new name following : List ℕ) (least greatest : ℕ) → between ≡ old ++ (codes "[[signal.phase]]\nname = \"" ++ (name ++ (codes "\"\nmin = " ++ (decimal least ++ codes "\n")))) →
    new ≡ between ++ (codes "max = " ++ (decimal greatest ++ (codes "\nclear = 2\nnext = [\"" ++ (following ++ codes "\"]\n")))) → new ≡ old ++ text_of_lines (phase_lines name least greatest following)
phase_is_added old between new name following least greatest first second =
    rw (second, first)
    (phase_in_order old (codes "[[signal.phase]]\nname = \"") name (codes "\"") (codes "\n") (codes "min = ") (decimal least) (codes "max = ") (decimal greatest) (codes "clear = 2\nnext = [\"") following (codes "]"))

-- the format and the steps
top_in_order : (old before steps feed : List ℕ) → old ++ (before ++ (steps ++ feed)) ≡ old ++ (before ++ ((steps ++ feed) ++ []))
top_in_order old before steps feed = simp (append_assoc, append-nil) refl

pub top_is_added : (old new : List ℕ) (number : ℕ) → new ≡ old ++ (codes "format = 1\nsteps = " ++ (decimal (steps_of number) ++ codes "\n")) → new ≡ old ++ top_text number
unfolding top_text
top_is_added old new number written = rw written (top_in_order old (codes "format = 1\nsteps = ") (decimal (steps_of number)) (codes "\n"))

-- ---- whole tables

-- the stretch of the street behind the last junction
pub street_behind : (number j : ℕ) → junctions_of number ≤ j → street_text number j ≡ text_of_lines (link_lines (named (codes "m") j) 2)
unfolding street_text
street_behind number j behind = rw (le-ltb j (junctions_of number) behind)

-- one before a junction that is not the first
pub street_is_added : (old a b new : List ℕ) (number j : ℕ) → j < junctions_of number → (j ≡ 0 → ⊥) → a ≡ old ++ text_of_lines (link_lines (named (codes "m") j) 3) →
    b ≡ a ++ text_of_lines (turns_line number j ∷ []) → new ≡ b ++ text_of_lines (gate_lines j (codes "main")) → new ≡ old ++ street_text number j
unfolding street_text
street_is_added old a b new number j within further link turns gate =
    rw (lt-ltb j (junctions_of number) within, ne_eqb j 0 further)
    (lines_are_added old b new (link_lines (named (codes "m") j) 3 ++ turns_line number j ∷ []) (gate_lines j (codes "main")) (lines_are_added old a b (link_lines (named (codes "m") j) 3) (turns_line number j ∷ []) link turns) gate)

-- the head of the street, which has demand
pub head_is_added : (old a b c new : List ℕ) (number j : ℕ) → j < junctions_of number → j ≡ 0 → a ≡ old ++ text_of_lines (link_lines (named (codes "m") j) 3) →
    b ≡ a ++ text_of_lines (turns_line number j ∷ []) → c ≡ b ++ text_of_lines (gate_lines j (codes "main")) → new ≡ c ++ text_of_lines (demand_line number (street_rate number) ∷ []) → new ≡ old ++ street_text number j
unfolding street_text
head_is_added old a b c new number j within first link turns gate demand =
    let head : List (List ℕ) = link_lines (named (codes "m") j) 3 in
    let two = lines_are_added old a b head (turns_line number j ∷ []) link turns in
    let three = lines_are_added old b c (head ++ turns_line number j ∷ []) (gate_lines j (codes "main")) two gate in
    let four = lines_are_added old c new (head ++ turns_line number j ∷ gate_lines j (codes "main")) (demand_line number (street_rate number) ∷ []) three demand in
    rw (lt-ltb j (junctions_of number) within, eq-eqb j 0 first) four

-- the side street
pub side_is_added : (old a b c new : List ℕ) (number j : ℕ) → a ≡ old ++ text_of_lines (link_lines (named (codes "s") j) 2) → b ≡ a ++ (codes "to = \"m" ++ (decimal (j + 1) ++ codes "\"\n")) →
    c ≡ b ++ text_of_lines (gate_lines j (codes "side")) → new ≡ c ++ text_of_lines (demand_line number (side_rate number j) ∷ []) → new ≡ old ++ side_text number j
unfolding side_text
side_is_added old a b c new number j link leads gate demand =
    let head : List (List ℕ) = link_lines (named (codes "s") j) 2 in
    let to : List ℕ = text_line (codes "to") (named (codes "m") (j + 1)) in
    let leads_line : b ≡ a ++ text_of_lines (to ∷ []) = rw leads (line_in_order a (codes "to = \"m") (decimal (j + 1)) (codes "\"") (codes "\n")) in
    let two = lines_are_added old a b head (to ∷ []) link leads_line in
    let three = lines_are_added old b c (head ++ to ∷ []) (gate_lines j (codes "side")) two gate in
    lines_are_added old c new (head ++ to ∷ gate_lines j (codes "side")) (demand_line number (side_rate number j) ∷ []) three demand

-- a signal
pub signal_is_added : (old a b new : List ℕ) (j : ℕ) → a ≡ old ++ (codes "[[signal]]\nname = \"k" ++ (decimal j ++ codes "\"\n")) → b ≡ a ++ text_of_lines (phase_lines (codes "main") 4 12 (codes "side")) →
    new ≡ b ++ text_of_lines (phase_lines (codes "side") 3 8 (codes "main")) → new ≡ old ++ signal_text j
unfolding signal_text
signal_is_added old a b new j named_so main side =
    let head : List (List ℕ) = codes "[[signal]]" ∷ text_line (codes "name") (named (codes "k") j) ∷ [] in
    let one : a ≡ old ++ text_of_lines head = rw named_so (line_in_order old (codes "[[signal]]\nname = \"k") (decimal j) (codes "\"") (codes "\n")) in
    let two = lines_are_added old a b head (phase_lines (codes "main") 4 12 (codes "side")) one main in
    lines_are_added old b new (head ++ phase_lines (codes "main") 4 12 (codes "side")) (phase_lines (codes "side") 3 8 (codes "main")) two side

-- ---- the junctions one after another

-- one part more
pub part_is_added : (before old new : List ℕ) (part : ℕ → List ℕ) (j : ℕ) → old ≡ before ++ join_below j part → new ≡ old ++ part j → new ≡ before ++ join_below (j + 1) part
part_is_added before old new part j so_far more =
    more ∙ ap (λ text. text ++ part j) so_far ∙ append_assoc before (join_below j part) (part j) ∙ ap (λ text. before ++ text) (sym (join_below-suc j part))

-- what stands at a junction
three_in_order : (old a b c : List ℕ) → old ++ a ++ b ++ c ≡ old ++ (a ++ b ++ c)
three_in_order old a b c = simp append_assoc refl

pub junction_is_added : (old a b new : List ℕ) (number j : ℕ) → a ≡ old ++ side_text number j → b ≡ a ++ way_off_text j → new ≡ b ++ street_text number (j + 1) → new ≡ old ++ junction_text number j
junction_is_added old a b new number j side off street = rw (street, off, side) (three_in_order old (side_text number j) (way_off_text j) (street_text number (j + 1)))

-- no part yet
pub no_part : (old : List ℕ) (part : ℕ → List ℕ) → old ≡ old ++ join_below 0 part
no_part old part = rw (join_below-zero part) (sym (append-nil old))

-- the whole
whole_in_order : (top head junctions signals : List ℕ) → top ++ (head ++ junctions) ++ signals ≡ top ++ head ++ junctions ++ signals
whole_in_order top head junctions signals = simp append_assoc refl

pub text_is_written : (top links new : List ℕ) (number : ℕ) → top ≡ top_text number → links ≡ top ++ (street_text number 0 ++ join_below (junctions_of number) (junction_text number)) →
    new ≡ links ++ join_below (junctions_of number) signal_text → new ≡ generated_text number
unfolding generated_text
text_is_written top links new number first second third = rw (third, second, first) (whole_in_order (top_text number) (street_text number 0) (join_below (junctions_of number) (junction_text number)) (join_below (junctions_of number) signal_text))
