-- The output shown for a log that was fed some pieces is document 01's output for them.
use Prim.Native.Nat.{ℕ, ◌≤◌}
use mathlib.Core.List.{List}
use mathlib.Core.Path.{◌≡◌, ◌∙◌, ap}
use native.Mathlib.Omega.{arith}
use lib.ListN.{length, drop, length-append}
use Rattle.paper.specs.Log.{output}
use Rattle.log_listing.specs.declared.Answer.{Answer}
use Rattle.log_listing.specs.Listing.{Placed, placed, text}
use Rattle.log_run.specs.Run.{answer}
use Rattle.log_feed.specs.declared.events.Log.{Log}
use Rattle.log_feed.specs.FeedMachine.{Logged, begun, last_line}
use Rattle.log_feed.specs.Pieces.{Reached, concat}
use Rattle.log_theory.proofs.Output.{log-output}
use Rattle.bench_log.specs.Reports.{Reports}

pub reported : (w : Log) (a : Answer) (n : ℕ) (buf₀ buf before after : List ℕ) → length buf₀ ≡ 4096
    → Reached (record { log = begun; bytes = buf₀ }) (record { log = w; bytes = buf })
    → a ≡ answer (last_line (record { log = w; bytes = buf })).log.replay
    → record { len = n; bytes = after } ≡ placed (text a) before → Reports before n after
reported w a n buf₀ buf before after h r ea e = record {
  fed = r.fed;
  same =
      e
      ∙ ap (λ (a : Answer). placed (text a) before)
      (ea ∙ ap (λ (s : Logged). answer (last_line s).log.replay) r.same)
      ∙ ap (λ (t : List ℕ). placed t before) (log-output r.fed buf₀ h);
}

pub report-fits : (before after : List ℕ) (n : ℕ) → Reports before n after → n ≤ length after
report-fits before after n r =
    omega (
      arith,
      ap (λ (p : Placed). p.len) r.same,
      ap (λ (p : Placed). length p.bytes) r.same,
      length-append (output (concat r.fed)) (drop (length (output (concat r.fed))) before),
    )
