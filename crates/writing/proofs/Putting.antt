-- Bytes put one after the other.
use Rattle.std.proofs.Common.{◌≡◌, ℕ, List, [], ◌++◌, sym, subst, append_assoc, append-nil}
use Rattle.writing.specs.Sinks.{Puts}

module _ {S : Type 0} (took : S → List ℕ → S → Type 0) where
  pub puts_none : (b : S) → Puts took b [] b
  puts_none b a x h = subst (λ w. took a w b) (sym (append-nil x)) h

  pub puts_both : (b c d : S) (y z : List ℕ) → Puts took b y c → Puts took c z d → Puts took b (y ++ z) d
  puts_both b c d y z p q a x h = subst (λ w. took a w d) (append_assoc x y z) (q a (x ++ y) (p a x h))

  pub puts_same : (b c : S) (y z : List ℕ) → y ≡ z → Puts took b y c → Puts took b z c
  puts_same b c y z e p = subst (λ w. Puts took b w c) e p
