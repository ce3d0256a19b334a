use Rattle.request_laws.proofs.Contents.{content}
use Rattle.request_laws.proofs.Reporting.{all_counted, table_is}
use Rattle.request_laws.proofs.counting.reports_are_counted.Goals as goal

pub returns-clause-content : goal.returns-clause-content
returns-clause-content c = λ blocks items table. content blocks table items

pub returns-clause-all : goal.returns-clause-all
returns-clause-all c = λ blocks acks packet items table. all_counted blocks table acks packet items

pub returns-clause-table : goal.returns-clause-table
returns-clause-table c = λ blocks acks number moment packet items table. table_is blocks table acks number moment packet items
