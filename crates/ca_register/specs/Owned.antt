-- A line, as the program stores it.
use Rattle.std.specs.Prelude.{string_bytes}
use Rattle.ca_register.specs.Lines.{Line}
use Rattle.ca_register.specs.declared.text.line.ReadLine.{ReadLine}
use Rattle.ca_register.specs.declared.text.line.RegisterLine.{RegisterLine}

-- the line
abbrev pub line_held : RegisterLine → Line
line_held held = record {
  issuer = held.issuer;
  key = held.key;
  name = string_bytes held.name;
  ca = held.ca;
  limits = held.limits;
}

-- the same, with the name where it is in the text
abbrev pub line_read : ReadLine → Line
line_read read = record {
  issuer = read.issuer;
  key = read.key;
  name = read.name.now;
  ca = read.ca;
  limits = read.limits;
}
