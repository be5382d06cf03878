-- Names that stand twice: table by table, and as the lists of faults that definitions give.
use Rattle.std.proofs.Common.{◌≡◌, ℕ, ◌+◌, ◌<◌, Bool, ◌||◌, List, [], ◌∷◌, ◌++◌, length, drop, take, get_or, codes, Result, Ok, Err, refl, ap, sym, ◌∙◌, append_assoc, arith}
use Rattle.std.specs.Prelude.{⊤}
use Rattle.std.specs.List.{list_any}
use Rattle.std.specs.Option.{option_map_or}
use Rattle.std.specs.Str.{bytes_eq}
use Rattle.std.proofs.lemmas.List.{append-nil, length-append, take-map, take_at, take_more}
use Rattle.toml.specs.Data.{Data, string, integer, float, boolean, datetime, array, table, as_table, Items, no_items, item, Members}
use Rattle.toml.specs.View.{items_view, view}
use Rattle.toml.specs.declared.value.Value.{Value}
use Rattle.toml.proofs.Views.{items_view-drop}
use Rattle.refusals.specs.Faults.{items_from, per_item, unless}
use Rattle.refusals.proofs.FirstFaults.{unless_fine, unless_left, unless_made, unless_right}
use Rattle.refusals.proofs.Items.{items_from-map, items_from-same}
use Rattle.network_file.specs.Documents.{tables_among, tables_at, text_at}
use Rattle.network_file.specs.Refusals.{number, names_of, name_at, name_faults, signal_name_faults}
use Rattle.network_file.specs.inner.SameNames.{has_name, name_after, same_names, signal_after}
use Rattle.network_file.specs.inner.Tables.{each_after, if_table, next_number}
use Rattle.network_file.specs.declared.fault.At.{At}
use Rattle.network_file.specs.declared.fault.At.TheVariants.{Link, Signal, Phase}
use Rattle.network_file.specs.declared.fault.NetFault.{NetFault}
use Rattle.network_file.specs.declared.judge.names.Named.TheVariants.{Links}
use Rattle.network_file.proofs.TableWalks.{number-more, tables_at-items}

-- a name is found among those of the tables as among the values
named_step : (name : List ℕ) (d : Data) (ds : Items) (others : Bool) → list_any (bytes_eq name) (names_of (tables_among ds)) ≡ others → list_any (bytes_eq name) (names_of (tables_among (item d ds))) ≡ (has_name name d || others)
named_step name (table ms) ds others same = ap (λ b. bytes_eq name (text_at (codes "name") ms) || b) same
named_step name _ ds others same = same

pub names_among : (name : List ℕ) (values : List Value) → list_any (bytes_eq name) (names_of (tables_among (items_view values))) ≡ list_any (λ v. has_name name (view v)) values
names_among name [] = refl
names_among name (v ∷ values) = named_step name (view v) (items_view values) (list_any (λ v. has_name name (view v)) values) (names_among name values)

pub ruleset names = (names_among)

-- the table that a value is
abbrev table_in : Data → List Members
table_in d = option_map_or (λ (ms : Members). ms ∷ []) (as_table d) []

tables_item : (d : Data) (ds : Items) → tables_among (item d ds) ≡ table_in d ++ tables_among ds
tables_item (table ms) ds = refl
tables_item _ ds = refl

-- the tables among some values and one more
tables_last : (values : List Value) (v : Value) → tables_among (items_view (values ++ v ∷ [])) ≡ tables_among (items_view values) ++ table_in (view v)
tables_last [] v = tables_item (view v) no_items ∙ append-nil (table_in (view v))
tables_last (x ∷ values) v =
    tables_item (view x) (items_view (values ++ v ∷ []))
    ∙ ap (λ ms. table_in (view x) ++ ms) (tables_last values v)
    ∙ sym (append_assoc (table_in (view x)) (tables_among (items_view values)) (table_in (view v)))
    ∙ ap (λ ms. ms ++ table_in (view v)) (sym (tables_item (view x) (items_view values)))

-- one item more
after_item : {X : Type 0} (k : ℕ) (f : ℕ → List Members → Members → List X) (earlier : List Members) (d : Data) (ds : Items)
    → each_after k f earlier (tables_among (item d ds)) ≡ if_table k (λ k ms. f k earlier ms) d ++ each_after (next_number k d) f (earlier ++ table_in d) (tables_among ds)
after_item k f earlier (table ms) ds = refl
after_item k f earlier (string t) ds = rw append-nil
after_item k f earlier (integer z) ds = rw append-nil
after_item k f earlier (float x) ds = rw append-nil
after_item k f earlier (boolean b) ds = rw append-nil
after_item k f earlier (datetime t) ds = rw append-nil
after_item k f earlier (array items) ds = rw append-nil

-- what an answer on the values from index i on is, where those before it are known
abbrev pub left : ℕ → (ℕ → List Members → Members → List NetFault) → List Value → ℕ → Result ⊤ NetFault
left k f values i = unless (each_after k f (tables_among (items_view (take i values))) (tables_among (items_view (drop i values)))) (tt {0})

-- the faults of a value, where those before it are known
abbrev pub faults_here : ℕ → (ℕ → List Members → Members → List NetFault) → List Value → ℕ → Value → List NetFault
faults_here k f values i value = if_table k (λ k ms. f k (tables_among (items_view (take i values))) ms) (view value)

-- the value at an index
left_drop : (k : ℕ) (f : ℕ → List Members → Members → List NetFault) (values : List Value) (i : ℕ) (value : Value) → i < length values → value ≡ get_or values i value
    → left k f values i ≡ unless (faults_here k f values i value ++ each_after (next_number k (view value)) f (tables_among (items_view (take (i + 1) values))) (tables_among (items_view (drop (i + 1) values)))) (tt {0})
left_drop k f values i value within at =
    let taken : tables_among (items_view (take (i + 1) values)) ≡ tables_among (items_view (take i values)) ++ table_in (view value) =
    ap (λ vs. tables_among (items_view vs)) (take_more values i value within ∙ ap (λ v. take i values ++ v ∷ []) (sym at)) ∙ tables_last (take i values) value in
    let dropped : items_view (drop i values) ≡ item (view value) (items_view (drop (i + 1) values)) =
    items_view-drop values i value within ∙ ap (λ v. item (view v) (items_view (drop (i + 1) values))) (sym at) in
    rw (dropped, taken) (ap (λ fs. unless fs (tt {0})) (after_item k f (tables_among (items_view (take i values))) (view value) (items_view (drop (i + 1) values))))

-- a refusal of a value
pub value_refused : (answer whole : Result ⊤ NetFault) (e : NetFault) (k : ℕ) (f : ℕ → List Members → Members → List NetFault) (values : List Value) (i : ℕ) (value : Value)
    → answer ≡ Err e → i < length values → value ≡ get_or values i value → left k f values i ≡ whole → Err e ≡ unless (faults_here k f values i value) (next_number k (view value)) → answer ≡ whole
value_refused answer whole e k f values i value is within at so_far refused =
    is ∙ unless_left (faults_here k f values i value) (each_after (next_number k (view value)) f (tables_among (items_view (take (i + 1) values))) (tables_among (items_view (drop (i + 1) values)))) (next_number k (view value)) (tt {0}) e refused
    ∙ sym (left_drop k f values i value within at) ∙ so_far

-- a value without a fault
pub value_passed : (whole : Result ⊤ NetFault) (k next : ℕ) (f : ℕ → List Members → Members → List NetFault) (values : List Value) (i : ℕ) (value : Value)
    → i < length values → value ≡ get_or values i value → left k f values i ≡ whole → Ok next ≡ unless (faults_here k f values i value) (next_number k (view value)) → left next f values (i + 1) ≡ whole
value_passed whole k next f values i value within at so_far fine =
    let made = unless_made (faults_here k f values i value) (next_number k (view value)) next fine in
    rw made.1 (rw (left_drop k f values i value within at, made.0) at so_far)

pub ruleset parts = (tables_at-items, unless_left, unless_right, unless_fine)

-- what is said of each table by those before it, by their numbers and table by table
after_from : {X : Type 0} (f : ℕ → List Members → Members → List X) (i : ℕ) (earlier rest : List Members) → length earlier ≡ i
    → items_from i rest (λ j ms. f (number j) (take j (earlier ++ rest)) ms) ≡ each_after (number i) f earlier rest
after_from f i earlier [] long = refl
after_from f i earlier (ms ∷ rest) long =
    let before : take i (earlier ++ ms ∷ rest) ≡ earlier = take_at earlier (ms ∷ rest) i long in
    let after : items_from (i + 1) rest (λ j here. f (number j) (take j ((earlier ++ ms ∷ []) ++ rest)) here) ≡ each_after (number (i + 1)) f (earlier ++ ms ∷ []) rest =
    after_from f (i + 1) (earlier ++ ms ∷ []) rest (length-append earlier (ms ∷ []) ∙ (omega arith)) in
    let joined : earlier ++ ms ∷ rest ≡ (earlier ++ ms ∷ []) ++ rest = sym (append_assoc earlier (ms ∷ []) rest) in
    rw (before, number-more i)
    (ap (λ fs. f (number i) earlier ms ++ fs)
    (ap (λ (all : List Members). items_from (i + 1) rest (λ j here. f (number j) (take j all) here)) joined ∙ after))

-- the same from the first table on
each_joined : {X : Type 0} (f : ℕ → List Members → Members → List X) (tables : List Members) → per_item tables (λ j ms. f (number j) (take j tables) ms) ≡ each_after 0 f [] tables
each_joined f tables = after_from f 0 [] tables refl

-- the names of tables, by their numbers
names_joined : (at : ℕ → At) (tables : List Members) → per_item (names_of tables) (name_at (names_of tables) (λ j. at (number j))) ≡ each_after 0 (name_after at) [] tables
names_joined at tables =
    items_from-map 0 tables (text_at (codes "name")) (name_at (names_of tables) (λ j. at (number j)))
    ∙ items_from-same 0 tables (λ j ms. name_at (names_of tables) (λ j. at (number j)) j (text_at (codes "name") ms)) (λ j ms. name_after at (number j) (take j tables) ms) (λ j ms. rw (take-map (text_at (codes "name")) j tables))
    ∙ each_joined (name_after at) tables

-- a signal and its phases
signal_joined : (signals : List Members) (s : ℕ) (signal : Members) → signal_name_faults signals s signal ≡ signal_after (number s) (take s signals) signal
signal_joined signals s signal =
    rw (take-map (text_at (codes "name")) s signals) (ap (λ fs. name_after Signal (number s) (take s signals) signal ++ fs) (names_joined (λ p. Phase (number s) p) (tables_at (codes "phase") signal)))

-- all names
pub all_names : (top : Members) → name_faults top ≡ same_names Links (tables_at (codes "link") top) ++ each_after 0 signal_after [] (tables_at (codes "signal") top)
unfolding name_faults
all_names top =
    let signals = tables_at (codes "signal") top in
    rw (names_joined Link (tables_at (codes "link") top), items_from-same 0 signals (signal_name_faults signals) (λ s signal. signal_after (number s) (take s signals) signal) (signal_joined signals), each_joined signal_after signals)

pub ruleset whole = (all_names, tables_at-items, unless_left, unless_right, unless_fine)
