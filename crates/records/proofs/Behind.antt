-- The words behind a part. Assumes nothing.
use Rattle.std.proofs.Common.{◌≡◌, ℕ, zero, suc, ◌+◌, ◌*◌, ◌^◌, List, ◌∷◌, length, drop, sym, refl, ap, ◌∙◌, arith, length-append, pow_pos}
use Rattle.std.proofs.lemmas.List.{drop-drop}
use Rattle.records.specs.Records.{word_count}
use Rattle.records.specs.Places.{places}
use Rattle.records.specs.Matches.{behind}

pub length_places : (k : ℕ) → length (places k) ≡ word_count (2 ^ k)
length_places zero = refl
length_places (suc k) =
    let h = length_places k in
    let d : 2 ^ suc k ≡ 2 * 2 ^ k = omega arith in
    omega (arith, length-append (places k) (places k), pow_pos k, d)

-- a part of one more round is a match and two parts
pub count_more : (k : ℕ) → word_count (2 ^ suc k) ≡ suc (word_count (2 ^ k) + word_count (2 ^ k))
count_more k =
    let d : 2 ^ suc k ≡ 2 * 2 ^ k = omega arith in
    omega (arith, pow_pos k, d)

pub behind_more : (k w : ℕ) (ws : List ℕ) → behind (suc k) (w ∷ ws) ≡ behind k (behind k ws)
behind_more k w ws =
    ap (λ j. drop j (w ∷ ws)) (count_more k) ∙ sym (drop-drop (word_count (2 ^ k)) (word_count (2 ^ k)) ws)
