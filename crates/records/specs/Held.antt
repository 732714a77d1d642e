-- What a record in memory holds.
use Rattle.records.specs.Contents.{Contents, plan_with}
use Rattle.records.specs.declared.Record.{Record}

abbrev pub contents_of : Record → Contents
contents_of r = plan_with r.poses r.actions r.end r.list.now
