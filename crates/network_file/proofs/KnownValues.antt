-- Answers of the definitions that were worked out by hand.
use Rattle.std.proofs.Common.{◌≡◌, true, false, pos, negsuc, [], ◌∷◌, codes, refl}
use Rattle.toml.specs.Data.{array, boolean, integer, string, no_items, item, no_members, member}
use Rattle.network_file.specs.Keys.{link_keys, top_keys, wave, whole}
use Rattle.network_file.specs.Refusals.{key_faults_at, link_name_faults, place, range_faults_at}
use Rattle.network_file.specs.Spelled.{pieces_from}
use Rattle.network_file.specs.declared.fault.At.TheVariants.{Link, Top}
use Rattle.network_file.specs.declared.fault.NetFault.TheVariants.{Key, Name, Range}

-- wave = [1, 3] is a wave speed, [3, 1] is none, nor is [1]
slow_wave : wave (array (item (integer (pos 1)) (item (integer (pos 3)) no_items))) ≡ true
slow_wave = refl

fast_wave : wave (array (item (integer (pos 3)) (item (integer (pos 1)) no_items))) ≡ false
fast_wave = refl

short_wave : wave (array (item (integer (pos 1)) no_items)) ≡ false
short_wave = refl

-- steps = 241 and steps = -1 are out of range
too_many_steps : whole 1 240 (integer (pos 241)) ≡ false
too_many_steps = refl

no_steps : whole 1 240 (integer (negsuc 0)) ≡ false
no_steps = refl

-- format = 1 alone lacks keys 2 and 3
format_alone : key_faults_at (place Top top_keys (member (codes "format") (integer (pos 1)) no_members)) ≡ Key Top 2 ∷ Key Top 3 ∷ []
unfolding key_faults_at
format_alone = refl

-- greens = 3 alone in a link: keys 1, 3, 4 and 8 are missing, key 9 is of another type
greens_alone : key_faults_at (place (Link 0) link_keys (member (codes "greens") (integer (pos 3)) no_members)) ≡ Key (Link 0) 1 ∷ Key (Link 0) 3 ∷ Key (Link 0) 4 ∷ Key (Link 0) 8 ∷ Key (Link 0) 9 ∷ []
unfolding key_faults_at
greens_alone = refl

-- a boolean is no number of cells, and lanes is no key: the unknown key comes last
unknown_last : key_faults_at (place (Link 0) link_keys (member (codes "cap") (boolean true) (member (codes "lanes") (integer (pos 1)) (member (codes "name") (string (codes "a")) (member (codes "store") (integer (pos 1)) no_members)))))
    ≡ Key (Link 0) 3 ∷ Key (Link 0) 0 ∷ []
unfolding key_faults_at
unknown_last = refl

-- link = [] and signal = [] : the first is out of range, the second is not
no_links : range_faults_at (place Top top_keys (member (codes "link") (array no_items) (member (codes "signal") (array no_items) no_members))) ≡ Range Top 3 ∷ []
unfolding range_faults_at
no_links = refl

-- of the names a, b, a the third is the first
third_name : link_name_faults (codes "a" ∷ codes "b" ∷ codes "a" ∷ []) ≡ Name (Link 2) ∷ []
third_name = refl

-- rates = [5, 6] are two pieces of one step each
two_rates : pieces_from 0 (5 ∷ 6 ∷ []) ≡ (record { first = 0; until = 1; rate = 5 }) ∷ (record { first = 1; until = 2; rate = 6 }) ∷ []
two_rates = refl
