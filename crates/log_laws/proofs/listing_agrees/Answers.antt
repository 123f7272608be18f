use Rattle.log_laws.proofs.Listings.{listing_agrees}
use Rattle.log_laws.proofs.listing_agrees.Goals as goal

pub returns : goal.returns
returns c = listing_agrees
