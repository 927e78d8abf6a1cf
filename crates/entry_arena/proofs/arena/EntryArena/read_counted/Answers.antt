-- What was scanned and linked is the arena of the unit.
use Rattle.dw_base.specs.EntryValues.{bytes_up_to}
use Rattle.dw_entries.specs.ViewUnits.{unit_section_at}
use Rattle.entry_arena.proofs.NextLaws.{linked-small}
use Rattle.entry_arena.proofs.ScanLaws.{arena-excludes, arena-fits, arena-of, begun-same, started-begun}
use Rattle.entry_arena.proofs.arena.EntryArena.read_counted.Goals as goal

pub linked_nodes-requires-clause-same : goal.linked_nodes-requires-clause-same
linked_nodes-requires-clause-same c =
    begun-same c.new-scan.result.unit c.args.table.now c.new-scan.result.bytes c.in_ok-scanned.scanned c.in_ok-scanned.ensures.begun

pub invariant_of-result : goal.invariant_of-result
invariant_of-result c =
    arena-fits c.new-scan.result.unit c.args.table.now c.new-scan.result.bytes c.in_ok-nodes.nodes.items
    (arena-of c.new-scan.result.unit c.args.table.now c.new-scan.result.bytes c.in_ok-scanned.scanned c.in_ok-nodes.nodes.items c.in_ok-scanned.ensures.begun
    c.in_ok-nodes.ensures.linked)
    (linked-small c.in_ok-scanned.scanned c.in_ok-nodes.nodes.items 0x80000000 c.in_ok-nodes.ensures.linked c.in_ok-scanned.ensures.few)

pub returns-clause-none : goal.returns-clause-none
returns-clause-none c = λ r f.
    arena-excludes (unit_section_at c.args.view.now c.args.unit.now.section) c.args.unit.now c.args.table.now c.in_ok-nodes.nodes.items
    (arena-of c.args.unit.now c.args.table.now (bytes_up_to (unit_section_at c.args.view.now c.args.unit.now.section) c.args.unit.now) c.in_ok-scanned.scanned
    c.in_ok-nodes.nodes.items
    (started-begun c.args.unit.now c.args.table.now (bytes_up_to (unit_section_at c.args.view.now c.args.unit.now.section) c.args.unit.now) c.new-scan.result
    c.in_ok-scanned.scanned c.new-scan.ensures.start c.in_ok-scanned.ensures.begun)
    c.in_ok-nodes.ensures.linked) r f
