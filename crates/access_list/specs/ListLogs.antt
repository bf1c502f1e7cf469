-- The log of a list, as the accesses that it keeps with the running intervals (own).
use Rattle.access_list.specs.Log.{Log, logged}
use Rattle.access_list.specs.declared.list.ListLog.{ListLog}

abbrev pub list_log : ListLog → Log
list_log l = logged l.entries.items l.local_interval l.global_interval l.uniform
