-- The two limits of a device that have a name (OpenCL 1.2, table 4.3; the numbers are our own).
use Rattle.std.proofs.Common.{lit≤}
use Rattle.limits.specs.declared.Limits.{Limits}

-- the profile: 65,536 items a launch, 256 a group, 64 buffers of 1 MiB, up to 1,000,000 ticks an item and 100,000 where
-- none are asked for; sources of 65,536 bytes, nested 64 deep; kernels of 20,000 nodes, 8 loops inside one another,
-- 4,096 bytes of private arrays, 32,768 elements an array, 32,768 bytes of local objects
abbrev pub profile : Limits
profile = record {
  items = 65536;
  group_items = 256;
  buffers = 64;
  buffer_bytes = 1048576;
  ticks = 1000000;
  default_ticks = 100000;
  source_bytes = 65536;
  nesting = 64;
  loops = 8;
  nodes = 20000;
  private_bytes = 4096;
  elements = 32768;
  local_bytes = 32768;
  few_items = lit≤ tt;
  small_groups = lit≤ tt;
  few_ticks = lit≤ tt;
  enough_ticks = lit≤ tt;
  short_sources = lit≤ tt;
  flat = lit≤ tt;
  few_loops = lit≤ tt;
  few_nodes = lit≤ tt;
  few_private_bytes = lit≤ tt;
  few_elements = lit≤ tt;
  few_local_bytes = lit≤ tt;
}

-- 2^26 items a launch, 1,024 a group, 4,096 buffers of 1 GiB, up to 1,000,000,000 ticks an item and 10,000,000 where
-- none are asked for; sources of 4 MiB, nested 256 deep; kernels of 1,000,000 nodes, 32 loops inside one another,
-- 65,536 bytes of private arrays, 65,536 elements an array, 65,536 bytes of local objects
abbrev pub large : Limits
large = record {
  items = 67108864;
  group_items = 1024;
  buffers = 4096;
  buffer_bytes = 1073741824;
  ticks = 1000000000;
  default_ticks = 10000000;
  source_bytes = 4194304;
  nesting = 256;
  loops = 32;
  nodes = 1000000;
  private_bytes = 65536;
  elements = 65536;
  local_bytes = 65536;
  few_items = lit≤ tt;
  small_groups = lit≤ tt;
  few_ticks = lit≤ tt;
  enough_ticks = lit≤ tt;
  short_sources = lit≤ tt;
  flat = lit≤ tt;
  few_loops = lit≤ tt;
  few_nodes = lit≤ tt;
  few_private_bytes = lit≤ tt;
  few_elements = lit≤ tt;
  few_local_bytes = lit≤ tt;
}
