use Rattle.std.proofs.Common.{refl, ap}
use Rattle.log_actions.specs.Named.{has}
use Rattle.log_actions.proofs.named.nothing_named.Goals as goal

pub returns : goal.returns
unfolding has
returns c = record {
  protocol = refl;
  metadata = refl;
  applications = λ q. ap (λ ks. has ks q) c.new.ensures.empty;
  paths = λ q. ap (λ ks. has ks q) c.new-2.ensures.empty;
}
