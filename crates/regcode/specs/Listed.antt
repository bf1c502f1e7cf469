-- Instructions with their tables, as plain data.
use Rattle.std.specs.Prelude.{List}
use Rattle.regcode.specs.Listing.{Listing}
use Rattle.regcode.specs.declared.instruction.Instruction.{Instruction}
use Rattle.regcode.specs.declared.tables.Tables.{Tables}

abbrev pub listing : List Instruction → Tables → Listing
listing instructions tables =
    record {
      instructions = instructions;
      registers = tables.registers.items;
      arrays = tables.arrays.items;
      objects = tables.objects;
      names = tables.names;
      parameters = tables.parameters.items;
      loops = tables.loops.items;
    }
