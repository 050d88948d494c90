-- Document 01, "Reference and range (002)": the growth factors.
use Rattle.std.specs.Prelude.{ℕ, zero, suc, ◌+◌, ◌-◌, ◌*◌, ◌/◌, ◌^◌}

unfoldable pub factorial : ℕ → ℕ
factorial zero = 1
factorial (suc n) = suc n * factorial n

-- x^k/k! for x = d/3650, over the common denominator 3650^8 × 8!
unfoldable pub term : ℕ → ℕ → ℕ
term d k = d ^ k * 3650 ^ (8 - k) * (factorial 8 / factorial k)

-- the terms for k = 0 to n, added
unfoldable pub terms : ℕ → ℕ → ℕ
terms d zero = term d 0
terms d (suc n) = terms d n + term d (suc n)

-- "entry d is 1,000,000,000 times the sum for k = 0 to 8 of x^k/k!, x = d/3650, rounded down (house)"
unfoldable pub growth : ℕ → ℕ
growth d = 1000000000 * terms d 8 / (3650 ^ 8 * factorial 8)

-- "The theoretical price is underlying×g÷1,000,000,000 rounded down."
unfoldable pub theoretical : ℕ → ℕ → ℕ
theoretical under days = under * growth days / 1000000000
