-- Bribe: the least sum of prices for which something can be had.
use Rattle.std.specs.Prelude.{◌≡◌, ℕ, ◌+◌, min, Bool, true, false, cond, List, Some, None, codes, decimal, Option, ◌==◌, nat_lt, refl}
use Rattle.algebra.specs.Semirings.{Semiring}

-- the price is above 999,999,999, which nobody can pay
abbrev pub dear : Option ℕ → Bool
dear None = false
dear (Some price) = nat_lt 999999999 price

-- a bribe: a price of 0 to 999,999,999, or None where no such price will do
pub record Cost : Type 0 where
  pub price : Option ℕ
  pub within : dear price ≡ false

-- the price if it can be paid, and None if it is above 999,999,999
abbrev pub payable : Option ℕ → Option ℕ
payable None = None
payable (Some price) = cond (nat_lt 999999999 price) None (Some price)

-- what is payable is not too dear
pub payable_within : (price : Option ℕ) → dear (payable price) ≡ false
payable_within None = refl
payable_within (Some price) = go (nat_lt 999999999 price) refl
  where
    go : (above : Bool) → nat_lt 999999999 price ≡ above → dear (cond above None (Some price)) ≡ false
    go true e = refl
    go false e = e

-- the bribe of a price: none if there is no price, or it is above 999,999,999
abbrev pub costing : Option ℕ → Cost
costing price = record { price = payable price; within = payable_within price }

-- the smaller of two prices, none counting as the largest
abbrev pub cheaper : Option ℕ → Option ℕ → Option ℕ
cheaper None q = q
cheaper (Some p) None = Some p
cheaper (Some p) (Some q) = Some (min p q)

-- the total of two prices, and none if either is none
abbrev pub together : Option ℕ → Option ℕ → Option ℕ
together None q = None
together (Some p) None = None
together (Some p) (Some q) = Some (p + q)

-- whether two prices are the same
abbrev pub same_price : Option ℕ → Option ℕ → Bool
same_price None None = true
same_price None (Some q) = false
same_price (Some p) None = false
same_price (Some p) (Some q) = p == q

-- a sum is the cheaper of the two; a product is their total, and none if that is above 999,999,999; a win costs its price
abbrev pub bribing : Semiring Cost
bribing =
    record {
      nothing = costing None;
      one = costing (Some 0);
      plus = λ x y. costing (cheaper x.price y.price);
      times = λ x y. costing (together x.price y.price);
      same = λ x y. same_price x.price y.price;
      weight = λ fact. costing fact;
    }

-- the bribe that a number holds: itself as a price, so that 1,000,000,000 holds none
abbrev pub held : ℕ → Cost
held number = costing (Some number)

-- how a price is written
abbrev pub price_text : Option ℕ → List ℕ
price_text None = codes "none"
price_text (Some price) = decimal price
