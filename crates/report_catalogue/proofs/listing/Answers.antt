-- `report_catalogue::listing` meets its contract: the lines of all entries, between the first line and the last.
use Rattle.report_catalogue.proofs.CatalogueLaws.{text_good}
use Rattle.report_catalogue.proofs.listing.Goals as goal

pub returns-clause-text : goal.returns-clause-text
returns-clause-text c = search text_good
