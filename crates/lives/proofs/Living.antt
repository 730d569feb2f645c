-- The law of lives.
use Rattle.std.proofs.Common.{ℕ, ◌<◌, ◌≤◌}
use Rattle.model.specs.Machine.{fresh}
use Rattle.texts.proofs.Back.{reads_back}
use Rattle.lives.specs.Lives.{Lives}
use Rattle.lives.proofs.Kept.{fresh_limits, reached_limits}
use Rattle.lives.proofs.Replies.{right, argued}
use Rattle.lives.proofs.Traceless.{no_trace}

pub lives : (n f : ℕ) → 0 < n → n ≤ 200 → Lives (fresh n f)
lives n f p q =
    record {
      right = λ w r. right w (reached_limits (fresh_limits n f p q) r);
      argued = λ w r. argued w (reached_limits (fresh_limits n f p q) r);
      no_trace = no_trace (fresh n f);
      written_back = λ m r g. reads_back m g (reached_limits (fresh_limits n f p q) r);
    }
