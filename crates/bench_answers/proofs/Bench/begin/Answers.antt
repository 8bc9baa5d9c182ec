-- `begin`: a fresh record, and no area.
use Rattle.bench_answers.proofs.Bench.begin.Goals as goal

pub returns : goal.returns
returns c = record { fresh = c.fresh.ensures; none = c.new.ensures }
