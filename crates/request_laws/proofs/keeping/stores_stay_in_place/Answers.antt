use Rattle.request_laws.proofs.Stays.{identifiers_kept, length_kept, links_kept, records_kept, reserved_kept, share_kept, together_kept}
use Rattle.request_laws.proofs.keeping.stores_stay_in_place.Goals as goal

pub returns-clause-count : goal.returns-clause-count
returns-clause-count c = length_kept

pub returns-clause-identifiers : goal.returns-clause-identifiers
returns-clause-identifiers c = identifiers_kept

pub returns-clause-reserved : goal.returns-clause-reserved
returns-clause-reserved c = reserved_kept

pub returns-clause-links : goal.returns-clause-links
returns-clause-links c = links_kept

pub returns-clause-share : goal.returns-clause-share
returns-clause-share c = share_kept

pub returns-clause-together : goal.returns-clause-together
returns-clause-together c = together_kept

pub returns-clause-pages : goal.returns-clause-pages
returns-clause-pages c = records_kept
