use Rattle.std.proofs.Common.{◌≡◌, ◌≢◌, [], IsTrue}
use Rattle.tablecheck.specs.Reports.{first_header}
use Rattle.tablecheck.proofs.findings.Reading.read_file.Given as goal

-- the first header stays, and another is read only behind a PDU
abbrev pub invariant-loop : goal.invariant-loop
invariant-loop g l = (first_header l.report ≡ first_header l.initial.report) × (IsTrue l.more → l.report.pdus.items ≢ [])
