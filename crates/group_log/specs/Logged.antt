-- How the log of a running group is seen (own, on OpenCL 1.2, 3.3.1 and 6.12.8).
use Rattle.access_list.specs.Log.{Log, logged}
use Rattle.group_log.specs.Lasting.{all_of}
use Rattle.group_log.specs.declared.group.GroupLog.{GroupLog}

-- as the log of all accesses of the group, in its running intervals (own)
abbrev pub log_of : GroupLog → Log
log_of l = logged (all_of l.whole.items) l.local.interval l.global.interval l.global.uniform
