-- When a pairing may not be put in.
use Rattle.std.specs.Prelude.{ℕ, Bool, cond, not, ◌&&◌, ◌||◌, Some, None, Option, ◌==◌, nat_lt}
use Rattle.facts.specs.declared.refusals.Refusal.{Refusal}
use Rattle.facts.specs.declared.refusals.Refusal.TheVariants.{EntrantUnknown, EntrantsEqual, PriceAboveTop, NeitherSideFree, PairingNotCarried}
use Rattle.facts.specs.Facts.{over_top, one_free}
use Rattle.facts.specs.Sheets.{Sheet}

-- the first refusal that applies, of a pairing that a source does or does not carry
abbrev pub first_refusal : ℕ → ℕ → ℕ → Option ℕ × Option ℕ → Bool → Option Refusal
first_refusal n a b facts carried =
    cond (not (nat_lt a n && nat_lt b n)) (Some EntrantUnknown)
    (cond (a == b) (Some EntrantsEqual)
    (cond (over_top facts.0 || over_top facts.1) (Some PriceAboveTop)
    (cond (not (one_free facts.0 facts.1)) (Some NeitherSideFree)
    (cond (not carried) (Some PairingNotCarried)
    None))))

-- the refusal of an amendment of a sheet
abbrev pub refusal_of : Sheet → ℕ → ℕ → Option ℕ × Option ℕ → Option Refusal
refusal_of s a b facts = first_refusal s.size a b facts (s.carries a b facts.0 facts.1)
