-- Small modules, with their texts and their trees, that show what sets and shifts come to, and the trap of range.
use Rattle.std.specs.Prelude.{codes, [], ◌∷◌, None, Some, pos}
use Rattle.oberon_tree.specs.declared.expression.Relator.TheVariants as relators
use Rattle.oberon_tree.specs.declared.expression.Sign.TheVariants as signs
use Rattle.oberon_tree.specs.declared.expression.MulOperator.TheVariants as muls
use Rattle.oberon_tree.specs.Trees.{no_relation, relation_of, expr_of, simple_of, no_addends, term_of, no_multipliers, more_multipliers, set_factor, designator_factor, negation_factor, set_of, some_elements, no_more_elements, more_elements, element_of, no_upper, upper_of, designator_of, no_selectors, more_selectors, field_selector, call_selector, some_arguments, exprs_of, no_more_exprs, more_exprs, named_type, statements_of, no_more_statements, more_statements, empty_statement, assign_statement, call_statement, if_statement, if_of, guarded_of, no_elsifs, else_of}
use Rattle.run_rules.specs.Linked.{Source}
use Rattle.run_rows.specs.Parts.{at, ident, own, named, just, plain, alone, number, string, name}

abbrev pub sets_by_incl_and_excl : Source
sets_by_incl_and_excl = record {
  stem = codes "A";
  text = codes "MODULE A; IMPORT Out; VAR z: SET; b: BOOLEAN; BEGIN INCL(z, 31); INCL(z, 2); EXCL(z, 31); EXCL(z, 5); b := ~b; IF z = {2} THEN Out.Int(ORD(b), 0) ELSE Out.Char(\"?\") END; IF ~b THEN ELSE Out.Char(\"e\") END; Out.String(\"\") END A.";
  tree =
      record {
        word = (at 0 6);
        name = (ident 7 (codes "A"));
        semicolon = (at 8 9);
        imports = (Some (record {
          word = (at 10 16);
          first = (record {
            name
                = (ident 17 (codes "Out"));
            alias = None;
          });
          rest = [];
          semicolon = (at 20 21);
        }));
        declarations = (record {
          constants = None;
          types = None;
          variables = (Some (record {
            word = (at 22 25);
            items = ((record {
              names = (record { first = (own (ident 26 (codes "z"))); rest = [] });
              colon =
                  (at 27 28);
              of_type = (named_type (named (ident 29 (codes "SET"))));
              semicolon = (at 32 33);
            }) ∷ (record {
              names = (record {
                first = (own (ident
                    34 (codes "b")));
                rest = [];
              });
              colon = (at 35 36);
              of_type = (named_type (named (ident 37 (codes "BOOLEAN"))));
              semicolon = (at 44 45);
            }) ∷ []);
          }));
        });
        procedures = [];
        body = (Some (record {
          word = (at 46 51);
          statements = (statements_of (call_statement (designator_of (ident 52 (codes
              "INCL")) (more_selectors (call_selector (at 56 57) (some_arguments (exprs_of (alone (name 57 (codes "z"))) (more_exprs (at 58 59) (alone (number
              60 62 (pos 31))) no_more_exprs))) (at 62 63)) no_selectors))) (more_statements (at 63 64) (call_statement (designator_of (ident 65 (codes
              "INCL")) (more_selectors (call_selector (at 69 70) (some_arguments (exprs_of (alone (name 70 (codes "z"))) (more_exprs (at 71 72) (alone (number
              73 74 (pos 2))) no_more_exprs))) (at 74 75)) no_selectors))) (more_statements (at 75 76) (call_statement (designator_of (ident 77 (codes "EXCL"))
              (more_selectors (call_selector (at 81 82) (some_arguments (exprs_of (alone (name 82 (codes "z"))) (more_exprs (at 83 84) (alone (number 85 87
              (pos 31))) no_more_exprs))) (at 87 88)) no_selectors))) (more_statements (at 88 89) (call_statement (designator_of (ident 90 (codes "EXCL"))
              (more_selectors (call_selector (at 94 95) (some_arguments (exprs_of (alone (name 95 (codes "z"))) (more_exprs (at 96 97) (alone (number 98 99
              (pos 5))) no_more_exprs))) (at 99 100)) no_selectors))) (more_statements (at 100 101) (assign_statement (designator_of (ident 102 (codes "b"))
              no_selectors) (at 104 106) (alone (negation_factor (at 107 108) (name 108 (codes "b"))))) (more_statements (at 109 110) (if_statement (if_of
              (guarded_of (at 111 113) (expr_of (plain (name 114 (codes "z"))) (relation_of relators.Equal (at 116 117) (plain (set_factor (set_of (at 118 119)
              (some_elements (element_of (alone (number 119 120 (pos 2))) no_upper) no_more_elements) (at 120 121)))))) (at 122 126) (statements_of
              (call_statement (designator_of (ident 127 (codes "Out")) (more_selectors (field_selector (record {
                period = (at 130 131);
                name = (ident 131
                    (codes "Int"));
              })) (more_selectors (call_selector (at 134 135) (some_arguments (exprs_of (alone (designator_factor (designator_of (ident 135
              (codes "ORD")) (more_selectors (call_selector (at 138 139) (some_arguments (exprs_of (alone (name 139 (codes "b"))) no_more_exprs)) (at 140 141))
              no_selectors)))) (more_exprs (at 141 142) (alone (number 143 144 (pos 0))) no_more_exprs))) (at 144 145)) no_selectors)))) no_more_statements))
              no_elsifs (else_of (at 146 150) (statements_of (call_statement (designator_of (ident 151 (codes "Out")) (more_selectors (field_selector (record {
                period = (at 154 155);
                name = (ident 155 (codes "Char"));
              })) (more_selectors (call_selector (at 159 160) (some_arguments (exprs_of (alone (string
              160 163 (codes "?"))) no_more_exprs)) (at 163 164)) no_selectors)))) no_more_statements)) (at 165 168))) (more_statements (at 168 169)
              (if_statement (if_of (guarded_of (at 170 172) (alone (negation_factor (at 173 174) (name 174 (codes "b")))) (at 176 180) (statements_of
              empty_statement no_more_statements)) no_elsifs (else_of (at 181 185) (statements_of (call_statement (designator_of (ident 186 (codes "Out"))
              (more_selectors (field_selector (record { period = (at 189 190); name = (ident 190 (codes "Char")) })) (more_selectors (call_selector (at 194
              195) (some_arguments (exprs_of (alone (string 195 198 (codes "e"))) no_more_exprs)) (at 198 199)) no_selectors)))) no_more_statements)) (at 200
              203))) (more_statements (at 203 204) (call_statement (designator_of (ident 205 (codes "Out")) (more_selectors (field_selector (record {
                period =
                    (at 208 209);
                name = (ident 209 (codes "String"));
              })) (more_selectors (call_selector (at 215 216) (some_arguments (exprs_of (alone (string 216
              218 [])) no_more_exprs)) (at 218 219)) no_selectors)))) no_more_statements))))))));
        }));
        end = (at 220 223);
        end_name = (ident 224 (codes "A"));
        period = (at 225 226);
      };
}

abbrev pub complement_and_empty_range : Source
complement_and_empty_range = record {
  stem = codes "A";
  text = codes "MODULE A; IMPORT Out;  BEGIN Out.Int(ORD(-{0..30}), 0); Out.Int(ORD({5..3}), 0); Out.String(\"\") END A.";
  tree =
      record {
        word = (at 0 6);
        name = (ident 7 (codes "A"));
        semicolon = (at 8 9);
        imports = (Some (record {
          word = (at 10 16);
          first = (record {
            name
                = (ident 17 (codes "Out"));
            alias = None;
          });
          rest = [];
          semicolon = (at 20 21);
        }));
        declarations = (record {
          constants = None;
          types = None;
          variables = None;
        });
        procedures = [];
        body = (Some (record {
          word = (at 23 28);
          statements = (statements_of (call_statement (designator_of (ident
              29 (codes "Out")) (more_selectors (field_selector (record { period = (at 32 33); name = (ident 33 (codes "Int")) })) (more_selectors
              (call_selector (at 36 37) (some_arguments (exprs_of (alone (designator_factor (designator_of (ident 37 (codes "ORD")) (more_selectors
              (call_selector (at 40 41) (some_arguments (exprs_of (expr_of (simple_of (Some (record { sign = signs.Minus; span = (at 41 42) })) (just
              (set_factor (set_of (at 42 43) (some_elements (element_of (alone (number 43 44 (pos 0))) (upper_of (at 44 46) (alone (number 46 48 (pos 30)))))
              no_more_elements) (at 48 49)))) no_addends) no_relation) no_more_exprs)) (at 49 50)) no_selectors)))) (more_exprs (at 50 51) (alone (number 52 53
              (pos 0))) no_more_exprs))) (at 53 54)) no_selectors)))) (more_statements (at 54 55) (call_statement (designator_of (ident 56 (codes "Out"))
              (more_selectors (field_selector (record { period = (at 59 60); name = (ident 60 (codes "Int")) })) (more_selectors (call_selector (at 63 64)
              (some_arguments (exprs_of (alone (designator_factor (designator_of (ident 64 (codes "ORD")) (more_selectors (call_selector (at 67 68)
              (some_arguments (exprs_of (alone (set_factor (set_of (at 68 69) (some_elements (element_of (alone (number 69 70 (pos 5))) (upper_of (at 70 72)
              (alone (number 72 73 (pos 3))))) no_more_elements) (at 73 74)))) no_more_exprs)) (at 74 75)) no_selectors)))) (more_exprs (at 75 76) (alone
              (number 77 78 (pos 0))) no_more_exprs))) (at 78 79)) no_selectors)))) (more_statements (at 79 80) (call_statement (designator_of (ident 81 (codes
              "Out")) (more_selectors (field_selector (record { period = (at 84 85); name = (ident 85 (codes "String")) })) (more_selectors (call_selector (at
              91 92) (some_arguments (exprs_of (alone (string 92 94 [])) no_more_exprs)) (at 94 95)) no_selectors)))) no_more_statements)));
        }));
        end = (at 96
            99);
        end_name = (ident 100 (codes "A"));
        period = (at 101 102);
      };
}

abbrev pub element_32 : Source
element_32 = record {
  stem = codes "A";
  text = codes "MODULE A; IMPORT Out; VAR z: SET; i: INTEGER; BEGIN i := 32; z := {1, i}; Out.String(\"\") END A.";
  tree =
      record {
        word = (at 0 6);
        name = (ident 7 (codes "A"));
        semicolon = (at 8 9);
        imports = (Some (record {
          word = (at 10 16);
          first = (record {
            name
                = (ident 17 (codes "Out"));
            alias = None;
          });
          rest = [];
          semicolon = (at 20 21);
        }));
        declarations = (record {
          constants = None;
          types = None;
          variables = (Some (record {
            word = (at 22 25);
            items = ((record {
              names = (record { first = (own (ident 26 (codes "z"))); rest = [] });
              colon =
                  (at 27 28);
              of_type = (named_type (named (ident 29 (codes "SET"))));
              semicolon = (at 32 33);
            }) ∷ (record {
              names = (record {
                first = (own (ident
                    34 (codes "i")));
                rest = [];
              });
              colon = (at 35 36);
              of_type = (named_type (named (ident 37 (codes "INTEGER"))));
              semicolon = (at 44 45);
            }) ∷ []);
          }));
        });
        procedures = [];
        body = (Some (record {
          word = (at 46 51);
          statements = (statements_of (assign_statement (designator_of (ident 52 (codes
              "i")) no_selectors) (at 54 56) (alone (number 57 59 (pos 32)))) (more_statements (at 59 60) (assign_statement (designator_of (ident 61 (codes
              "z")) no_selectors) (at 63 65) (alone (set_factor (set_of (at 66 67) (some_elements (element_of (alone (number 67 68 (pos 1))) no_upper)
              (more_elements (at 68 69) (element_of (alone (name 70 (codes "i"))) no_upper) no_more_elements)) (at 71 72))))) (more_statements (at 72 73)
              (call_statement (designator_of (ident 74 (codes "Out")) (more_selectors (field_selector (record {
                period = (at 77 78);
                name = (ident 78 (codes
                    "String"));
              })) (more_selectors (call_selector (at 84 85) (some_arguments (exprs_of (alone (string 85 87 [])) no_more_exprs)) (at 87 88))
              no_selectors)))) no_more_statements)));
        }));
        end = (at 89 92);
        end_name = (ident 93 (codes "A"));
        period = (at 94 95);
      };
}

abbrev pub incl_of_32 : Source
incl_of_32 = record {
  stem = codes "A";
  text = codes "MODULE A; IMPORT Out; VAR z: SET; i: INTEGER; BEGIN i := 32; INCL(z, i); Out.String(\"\") END A.";
  tree =
      record {
        word = (at 0 6);
        name = (ident 7 (codes "A"));
        semicolon = (at 8 9);
        imports = (Some (record {
          word = (at 10 16);
          first = (record {
            name
                = (ident 17 (codes "Out"));
            alias = None;
          });
          rest = [];
          semicolon = (at 20 21);
        }));
        declarations = (record {
          constants = None;
          types = None;
          variables = (Some (record {
            word = (at 22 25);
            items = ((record {
              names = (record { first = (own (ident 26 (codes "z"))); rest = [] });
              colon =
                  (at 27 28);
              of_type = (named_type (named (ident 29 (codes "SET"))));
              semicolon = (at 32 33);
            }) ∷ (record {
              names = (record {
                first = (own (ident
                    34 (codes "i")));
                rest = [];
              });
              colon = (at 35 36);
              of_type = (named_type (named (ident 37 (codes "INTEGER"))));
              semicolon = (at 44 45);
            }) ∷ []);
          }));
        });
        procedures = [];
        body = (Some (record {
          word = (at 46 51);
          statements = (statements_of (assign_statement (designator_of (ident 52 (codes
              "i")) no_selectors) (at 54 56) (alone (number 57 59 (pos 32)))) (more_statements (at 59 60) (call_statement (designator_of (ident 61 (codes
              "INCL")) (more_selectors (call_selector (at 65 66) (some_arguments (exprs_of (alone (name 66 (codes "z"))) (more_exprs (at 67 68) (alone (name 69
              (codes "i"))) no_more_exprs))) (at 70 71)) no_selectors))) (more_statements (at 71 72) (call_statement (designator_of (ident 73 (codes "Out"))
              (more_selectors (field_selector (record { period = (at 76 77); name = (ident 77 (codes "String")) })) (more_selectors (call_selector (at 83 84)
              (some_arguments (exprs_of (alone (string 84 86 [])) no_more_exprs)) (at 86 87)) no_selectors)))) no_more_statements)));
        }));
        end = (at 88 91);
        end_name = (ident 92 (codes "A"));
        period = (at 93 94);
      };
}

abbrev pub shifts_and_rotations : Source
shifts_and_rotations = record {
  stem = codes "A";
  text = codes "MODULE A; IMPORT Out;  BEGIN Out.Int(ORD({31}), 0); Out.Int(ROR(1, 1), 0); Out.Int(ASR(-8, 1), 0); Out.String(\"\") END A.";
  tree =
      record {
        word = (at 0 6);
        name = (ident 7 (codes "A"));
        semicolon = (at 8 9);
        imports = (Some (record {
          word = (at 10 16);
          first = (record {
            name
                = (ident 17 (codes "Out"));
            alias = None;
          });
          rest = [];
          semicolon = (at 20 21);
        }));
        declarations = (record {
          constants = None;
          types = None;
          variables = None;
        });
        procedures = [];
        body = (Some (record {
          word = (at 23 28);
          statements = (statements_of (call_statement (designator_of (ident
              29 (codes "Out")) (more_selectors (field_selector (record { period = (at 32 33); name = (ident 33 (codes "Int")) })) (more_selectors
              (call_selector (at 36 37) (some_arguments (exprs_of (alone (designator_factor (designator_of (ident 37 (codes "ORD")) (more_selectors
              (call_selector (at 40 41) (some_arguments (exprs_of (alone (set_factor (set_of (at 41 42) (some_elements (element_of (alone (number 42 44 (pos
              31))) no_upper) no_more_elements) (at 44 45)))) no_more_exprs)) (at 45 46)) no_selectors)))) (more_exprs (at 46 47) (alone (number 48 49 (pos
              0))) no_more_exprs))) (at 49 50)) no_selectors)))) (more_statements (at 50 51) (call_statement (designator_of (ident 52 (codes "Out"))
              (more_selectors (field_selector (record { period = (at 55 56); name = (ident 56 (codes "Int")) })) (more_selectors (call_selector (at 59 60)
              (some_arguments (exprs_of (alone (designator_factor (designator_of (ident 60 (codes "ROR")) (more_selectors (call_selector (at 63 64)
              (some_arguments (exprs_of (alone (number 64 65 (pos 1))) (more_exprs (at 65 66) (alone (number 67 68 (pos 1))) no_more_exprs))) (at 68 69))
              no_selectors)))) (more_exprs (at 69 70) (alone (number 71 72 (pos 0))) no_more_exprs))) (at 72 73)) no_selectors)))) (more_statements (at 73 74)
              (call_statement (designator_of (ident 75 (codes "Out")) (more_selectors (field_selector (record {
                period = (at 78 79);
                name = (ident 79 (codes
                    "Int"));
              })) (more_selectors (call_selector (at 82 83) (some_arguments (exprs_of (alone (designator_factor (designator_of (ident 83 (codes "ASR"))
              (more_selectors (call_selector (at 86 87) (some_arguments (exprs_of (expr_of (simple_of (Some (record { sign = signs.Minus; span = (at 87 88) }))
              (just (number 88 89 (pos 8))) no_addends) no_relation) (more_exprs (at 89 90) (alone (number 91 92 (pos 1))) no_more_exprs))) (at 92 93))
              no_selectors)))) (more_exprs (at 93 94) (alone (number 95 96 (pos 0))) no_more_exprs))) (at 96 97)) no_selectors)))) (more_statements (at 97 98)
              (call_statement (designator_of (ident 99 (codes "Out")) (more_selectors (field_selector (record {
                period = (at 102 103);
                name = (ident 103 (codes
                    "String"));
              })) (more_selectors (call_selector (at 109 110) (some_arguments (exprs_of (alone (string 110 112 [])) no_more_exprs)) (at 112 113))
              no_selectors)))) no_more_statements))));
        }));
        end = (at 114 117);
        end_name = (ident 118 (codes "A"));
        period = (at 119 120);
      };
}

abbrev pub left_shift_and_difference : Source
left_shift_and_difference = record {
  stem = codes "A";
  text = codes "MODULE A; IMPORT Out;  BEGIN Out.Int(LSL(3, 31), 0); Out.Int(ORD({1..3} / {2..4}), 3); Out.String(\"\") END A.";
  tree =
      record {
        word = (at 0 6);
        name = (ident 7 (codes "A"));
        semicolon = (at 8 9);
        imports = (Some (record {
          word = (at 10 16);
          first = (record {
            name
                = (ident 17 (codes "Out"));
            alias = None;
          });
          rest = [];
          semicolon = (at 20 21);
        }));
        declarations = (record {
          constants = None;
          types = None;
          variables = None;
        });
        procedures = [];
        body = (Some (record {
          word = (at 23 28);
          statements = (statements_of (call_statement (designator_of (ident
              29 (codes "Out")) (more_selectors (field_selector (record { period = (at 32 33); name = (ident 33 (codes "Int")) })) (more_selectors
              (call_selector (at 36 37) (some_arguments (exprs_of (alone (designator_factor (designator_of (ident 37 (codes "LSL")) (more_selectors
              (call_selector (at 40 41) (some_arguments (exprs_of (alone (number 41 42 (pos 3))) (more_exprs (at 42 43) (alone (number 44 46 (pos 31)))
              no_more_exprs))) (at 46 47)) no_selectors)))) (more_exprs (at 47 48) (alone (number 49 50 (pos 0))) no_more_exprs))) (at 50 51)) no_selectors))))
              (more_statements (at 51 52) (call_statement (designator_of (ident 53 (codes "Out")) (more_selectors (field_selector (record {
                period = (at 56
                    57);
                name = (ident 57 (codes "Int"));
              })) (more_selectors (call_selector (at 60 61) (some_arguments (exprs_of (alone (designator_factor
              (designator_of (ident 61 (codes "ORD")) (more_selectors (call_selector (at 64 65) (some_arguments (exprs_of (expr_of (simple_of None (term_of
              (set_factor (set_of (at 65 66) (some_elements (element_of (alone (number 66 67 (pos 1))) (upper_of (at 67 69) (alone (number 69 70 (pos 3)))))
              no_more_elements) (at 70 71))) (more_multipliers muls.Divide (at 72 73) (set_factor (set_of (at 74 75) (some_elements (element_of (alone (number
              75 76 (pos 2))) (upper_of (at 76 78) (alone (number 78 79 (pos 4))))) no_more_elements) (at 79 80))) no_multipliers)) no_addends) no_relation)
              no_more_exprs)) (at 80 81)) no_selectors)))) (more_exprs (at 81 82) (alone (number 83 84 (pos 3))) no_more_exprs))) (at 84 85)) no_selectors))))
              (more_statements (at 85 86) (call_statement (designator_of (ident 87 (codes "Out")) (more_selectors (field_selector (record {
                period = (at 90
                    91);
                name = (ident 91 (codes "String"));
              })) (more_selectors (call_selector (at 97 98) (some_arguments (exprs_of (alone (string 98 100 []))
              no_more_exprs)) (at 100 101)) no_selectors)))) no_more_statements)));
        }));
        end = (at 102 105);
        end_name = (ident 106 (codes "A"));
        period = (at
            107 108);
      };
}

abbrev pub shift_by_32 : Source
shift_by_32 = record {
  stem = codes "A";
  text = codes "MODULE A; IMPORT Out; VAR i: INTEGER; BEGIN i := 32; i := LSL(1, i); Out.String(\"\") END A.";
  tree =
      record {
        word = (at 0 6);
        name = (ident 7 (codes "A"));
        semicolon = (at 8 9);
        imports = (Some (record {
          word = (at 10 16);
          first = (record {
            name
                = (ident 17 (codes "Out"));
            alias = None;
          });
          rest = [];
          semicolon = (at 20 21);
        }));
        declarations = (record {
          constants = None;
          types = None;
          variables = (Some (record {
            word = (at 22 25);
            items = ((record {
              names = (record { first = (own (ident 26 (codes "i"))); rest = [] });
              colon =
                  (at 27 28);
              of_type = (named_type (named (ident 29 (codes "INTEGER"))));
              semicolon = (at 36 37);
            }) ∷ []);
          }));
        });
        procedures = [];
        body = (Some
            (record {
              word = (at 38 43);
              statements = (statements_of (assign_statement (designator_of (ident 44 (codes "i")) no_selectors) (at 46 48) (alone
                  (number 49 51 (pos 32)))) (more_statements (at 51 52) (assign_statement (designator_of (ident 53 (codes "i")) no_selectors) (at 55 57) (alone
                  (designator_factor (designator_of (ident 58 (codes "LSL")) (more_selectors (call_selector (at 61 62) (some_arguments (exprs_of (alone (number 62
                  63 (pos 1))) (more_exprs (at 63 64) (alone (name 65 (codes "i"))) no_more_exprs))) (at 66 67)) no_selectors))))) (more_statements (at 67 68)
                  (call_statement (designator_of (ident 69 (codes "Out")) (more_selectors (field_selector (record {
                    period = (at 72 73);
                    name = (ident 73 (codes
                        "String"));
                  })) (more_selectors (call_selector (at 79 80) (some_arguments (exprs_of (alone (string 80 82 [])) no_more_exprs)) (at 82 83))
                  no_selectors)))) no_more_statements)));
            }));
        end = (at 84 87);
        end_name = (ident 88 (codes "A"));
        period = (at 89 90);
      };
}
