-- Choices. Assumes nothing.
use mathlib.Core.Path.{◌≡◌, ap, ◌∙◌}
use mathlib.Core.Bool.{Bool, true, false, cond}

either : {A B : Type 0} (f : A → B) (b : Bool) (x y : B) (u v : A) → x ≡ f u → y ≡ f v → cond b x y ≡ f (cond b u v)
either f true x y u v p q = p
either f false x y u v p q = q

-- two choices by equal tests, part by part
pub choose : {A B : Type 0} (f : A → B) {b c : Bool} {x y : B} {u v : A} → b ≡ c → x ≡ f u → y ≡ f v → cond b x y ≡ f (cond c u v)
choose f {b} {c} {x} {y} {u} {v} e p q = ap (λ z. cond z x y) e ∙ either f c x y u v p q
