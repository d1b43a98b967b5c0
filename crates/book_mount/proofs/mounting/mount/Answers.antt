use Rattle.book_mount.proofs.MountedStores.{opened, reads_mounted, sound, counted, unwritten, asked, asked_refused, asked_unopened, caused, held, refused_cause, refused_held}
use Rattle.book_mount.proofs.mounting.mount.Goals as goal

pub returns-in-Ok-clause-opened : goal.returns-in-Ok-clause-opened
returns-in-Ok-clause-opened g c bytes told =
    opened g.D.Disk c.in-Ok.journal c.args.limit c.open.result bytes c.in-Ok.ensures.most
    (c.in-Ok.ensures.mounted bytes told) c.open.ensures

pub returns-in-Ok-clause-reads : goal.returns-in-Ok-clause-reads
returns-in-Ok-clause-reads g c bytes told =
    reads_mounted g.D.Disk c.in-Ok.journal c.args.limit c.open.result bytes
    (c.in-Ok.ensures.mounted bytes told) c.open.ensures

pub returns-in-Ok-clause-cause : goal.returns-in-Ok-clause-cause
returns-in-Ok-clause-cause g c =
    caused g.D.Disk c.args.disk c.in-Ok.journal c.in-Ok.ensures.most c.in-Ok.ensures.mounted
    c.args.limit c.open.result c.in-Ok.ensures.cause c.open.ensures

pub returns-in-Ok-clause-held : goal.returns-in-Ok-clause-held
returns-in-Ok-clause-held g c bytes told entries holds legal =
    held g.D.Disk c.args.disk c.in-Ok.journal c.in-Ok.ensures.most c.in-Ok.ensures.mounted
    c.args.limit c.open.result bytes entries g.met.D.Disk.counts_now told holds legal
    c.in-Ok.ensures.calm
    (λ rows recovers few. c.in-Ok.ensures.rows bytes told rows recovers few) c.open.ensures

pub returns-in-Ok-clause-sound : goal.returns-in-Ok-clause-sound
returns-in-Ok-clause-sound g c =
    sound g.D.Disk c.in-Ok.journal c.args.limit c.open.result c.requires.most c.in-Ok.ensures.sound
    c.open.ensures

pub returns-in-Ok-clause-count : goal.returns-in-Ok-clause-count
returns-in-Ok-clause-count g c =
    counted g.D.Disk c.in-Ok.journal c.args.limit c.open.result c.open.ensures

pub returns-in-Ok-clause-unwritten : goal.returns-in-Ok-clause-unwritten
returns-in-Ok-clause-unwritten g c bytes told rows size fits =
    unwritten g.D.Disk c.in-Ok.journal c.args.limit c.open.result bytes rows size
    (c.in-Ok.ensures.mounted bytes told) fits c.open.ensures

pub returns-in-Ok-clause-asked : goal.returns-in-Ok-clause-asked
returns-in-Ok-clause-asked g c bytes told rows size fits =
    asked g.D.Disk c.args.disk c.in-Ok.journal c.args.limit c.open.result bytes rows size
    (c.in-Ok.ensures.mounted bytes told) c.in-Ok.ensures.asked fits c.open.ensures

pub returns-in-Err-clause-cause : goal.returns-in-Err-clause-cause
returns-in-Err-clause-cause g c =
    refused_cause g.D.Disk c.in-Err.refused.why c.cause_of.result c.args.disk c.in-Err.refused.disk
    c.cause_of.ensures c.in-Err.ensures.cause

pub returns-in-Err-clause-held : goal.returns-in-Err-clause-held
returns-in-Err-clause-held g c bytes told entries holds legal =
    refused_held g.D.Disk c.in-Err.refused.why c.cause_of.result c.args.disk c.in-Err.refused.disk
    bytes entries g.met.D.Disk.counts_now c.cause_of.ensures told holds legal
    c.in-Err.ensures.cause
    (λ rows recovers few. c.in-Err.ensures.rows bytes told rows recovers few)

pub returns-in-Ok-clause-asked_refused : goal.returns-in-Ok-clause-asked_refused
returns-in-Ok-clause-asked_refused g c bytes told rows size fits =
    asked_refused g.D.Disk c.args.disk c.in-Ok.journal c.args.limit c.open.result bytes rows size
    (c.in-Ok.ensures.mounted bytes told) c.in-Ok.ensures.asked fits c.open.ensures

pub returns-in-Err-clause-asked_refused : goal.returns-in-Err-clause-asked_refused
returns-in-Err-clause-asked_refused g c bytes told rows size fits =
    asked_unopened g.D.Disk c.args.disk c.in-Err.refused.disk bytes rows size
    (c.in-Err.ensures.asked_refused bytes told) fits
