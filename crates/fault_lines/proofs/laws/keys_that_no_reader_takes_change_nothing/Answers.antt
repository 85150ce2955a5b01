use Rattle.fault_lines.proofs.TakenKeys.{commitments_alike, issuers_alike, price_rows_alike, regions_alike, sheets_alike}
use Rattle.fault_lines.proofs.laws.keys_that_no_reader_takes_change_nothing.Goals as goal

pub returns : goal.returns
returns c = record { sheet = sheets_alike; price = price_rows_alike; commitment = commitments_alike; region = regions_alike; issuer = issuers_alike }
