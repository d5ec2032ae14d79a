-- Nothing overflows in 64 bits: how large distance and energies are. Assumes nothing.
use Rattle.std.proofs.Common.{◌≡◌, ℕ, ◌+◌, ◌*◌, ◌/◌, ◌<◌, ◌≤◌, ap, le_trans, mul-le-mul, div-le_self, arith}
use Rattle.whole_energy.specs.declared.Return.{Return}
use Rattle.whole_energy.specs.declared.Leg.{Leg}
use Rattle.whole_energy.specs.Root.{WholeRoot}
use Rattle.whole_energy.specs.Energy.{Bounded, leg}
use Rattle.whole_energy.proofs.Root.{square_below}

distance_small : (x : Return) (root one : ℕ) → Bounded x → WholeRoot x.square root → one ≤ 1 → root + one ≤ 28284272
distance_small x root one b r o = let s = b.square in let l : root < 28284272 = square_below root 28284272 (omega arith) in omega arith

pub climb_small : (x : Return) → Bounded x → x.climb * x.power_climb ≤ 21000000000000
climb_small x b = mul-le-mul b.climb b.power_climb

pub cruise_small : (x : Return) (root one : ℕ) → Bounded x → WholeRoot x.square root → one ≤ 1 → (root + one) * x.power_cruise * x.wind ≤ 2828427200000000000
cruise_small x root one b r o = mul-le-mul (mul-le-mul (distance_small x root one b r o) b.power_cruise) b.wind

pub quotient_small : (l : Leg) (a d h : ℕ) → l ≡ leg a d → a ≤ h → l.quotient ≤ h
quotient_small l a d h e k = let q : l.quotient ≡ a / d = ap (λ (m : Leg). m.quotient) e in omega (arith, le_trans (div-le_self a d) k)
