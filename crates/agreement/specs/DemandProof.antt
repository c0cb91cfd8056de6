-- Demand 3 is met.
use Rattle.sweep.specs.Proofs.{sweep_right}
use Rattle.agreement.specs.AgreementProof.{agreement}
use Rattle.agreement.specs.Demand.{Demand3}
use Rattle.agreement.specs.GroundsProof.{grounds}
use Rattle.agreement.specs.KeptProof.{kept_counts}
use Rattle.agreement.specs.StoredProof.{table_filled, refused_blank}

pub demand_3 : Demand3
demand_3 =
    record {
      on_grounds = grounds;
      filled = table_filled;
      blank = refused_blank;
      agrees = agreement;
      counted = kept_counts;
      sweeps = sweep_right;
    }
