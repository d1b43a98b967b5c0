use Rattle.batch_reports.proofs.pages.push_row.Goals as goal

pub write_row-requires : goal.write_row-requires
write_row-requires c =
    c.lawful_entries_are_allowed.ensures c.requires.lawful.0 c.args.view.now.entry
    c.requires.lawful.1
