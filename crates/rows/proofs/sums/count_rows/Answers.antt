-- The two places may be exchanged.
use mathlib.Core.Path.{sym}
use Rattle.rows.proofs.sums.count_rows.Goals as goal

pub along-requires : goal.along-requires
along-requires c =
    let p = c.requires.w_bound in record {
      w_bound = (
        (p.0.1.0, (p.0.0, λ e. p.0.1.1 (sym e))),
        (λ j h a b. p.1.0 j h b a, p.1.1),
      );
      few = c.requires.few;
    }
